pub mod Alone
pub mod Greatest
pub mod Grown
pub mod Noting
pub mod Passing
