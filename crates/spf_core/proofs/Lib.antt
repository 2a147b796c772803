pub mod Events
pub mod Feet
pub mod Induction
pub mod MarkSteps
pub mod Marks
mod RenamedJobs
pub mod TilesInTurn
pub mod StateSteps
pub mod Tiles
pub mod Unordered
