pub mod Answer
pub mod Given
pub mod Numbers
pub mod Productions
pub mod Rules
pub mod Stage
pub mod Tested
