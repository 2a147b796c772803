pub mod Fitting
pub mod FitSteps
pub mod OneAnswer
pub mod Places
pub mod Reprinted
pub mod Scripts
