pub mod Bundles
pub mod Complete
pub mod Lines
pub mod Pieces
pub mod PlanTexts
pub mod Shapes
pub mod WordLists
