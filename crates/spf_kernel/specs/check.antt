pub mod Before
pub mod Checked
pub mod State
