pub mod Packed
pub mod Planned
pub mod Seeded
pub mod Taken
