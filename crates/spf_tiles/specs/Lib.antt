pub mod Before
pub mod Feet
pub mod Joining
pub mod Links
pub mod Lists
pub mod Parts
pub mod TileSets
