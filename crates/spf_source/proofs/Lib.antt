mod Allowed
mod Ascending
mod Starts
mod UnitRows
mod Way
