pub mod Before
pub mod Cuts
pub mod Perms
pub mod Sorts
pub mod Reach
