pub mod Firsts
pub mod Neighbours
pub mod Ordered
pub mod Reversed
pub mod Scans
