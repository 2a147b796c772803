mod Counted
mod Indents
mod Same
mod Values
