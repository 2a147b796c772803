pub mod ComposedText
pub mod Naming
pub mod Places
pub mod Text
