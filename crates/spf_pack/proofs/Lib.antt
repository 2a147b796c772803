mod Lengths
mod Listed
mod OneOrder
mod Packed
mod PackedCells
mod Turned
