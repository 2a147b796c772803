pub mod Following
pub mod Keeping
pub mod Members
pub mod Rows
