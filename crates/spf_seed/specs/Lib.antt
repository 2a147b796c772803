pub mod BreadthFirst
pub mod Entries
pub mod Listings
pub mod Spread
pub mod View
