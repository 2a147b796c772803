pub mod Parsed
pub mod Printed
pub mod Productions
pub mod Resolved
pub mod Rules
