pub mod FirstTouch
pub mod Listings
pub mod Packing
pub mod Packs
