pub mod Word
pub mod Wrap
