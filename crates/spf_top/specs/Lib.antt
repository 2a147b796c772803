pub mod Command
pub mod Kept
pub mod Outcome
pub mod PlanText
pub mod Report
pub mod Texts
pub mod Words
