mod Alike
mod AlikeUnits
mod Arguments
mod AsValues
mod AtUnit
mod Behaving
mod Behind
mod Binding
mod Bodies
mod Composing
mod Counts
mod Following
mod Iterations
mod KeptPlaces
mod Mirrored
mod Orders
pub mod Packings
mod SmallIterations
mod SmallParts
mod SmallTerms
pub mod Threads
