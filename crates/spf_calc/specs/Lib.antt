pub mod Answer
pub mod Evaluated
pub mod Productions
pub mod Room
pub mod Rules
pub mod Situation
pub mod Statements
pub mod Values
