pub mod Chains
pub mod Fits
pub mod Flat
pub mod Groups
pub mod Legality
