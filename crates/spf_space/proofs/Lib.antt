pub mod InOrder
pub mod Standing
pub mod Textual
pub mod Placed
