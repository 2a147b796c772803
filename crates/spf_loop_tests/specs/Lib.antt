pub mod Terms
pub mod Turns
