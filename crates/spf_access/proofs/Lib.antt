mod Events
mod TermReads
mod Values
mod Faults
mod Coming
mod Ranges
mod InRange
mod Touched
