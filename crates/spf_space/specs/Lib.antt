pub mod InOrder
pub mod Layout
pub mod Places
pub mod Units
