pub mod Bijections
pub mod Markers
