pub mod Accessed
pub mod ActionEffects
pub mod Blends
pub mod Classes
pub mod Lifting
pub mod Listed
pub mod Lists
pub mod Marked
pub mod Members
pub mod Noted
pub mod Orders
mod Performed
mod Renamed
mod RenamedActions
pub mod Rows
pub mod Swaps
