mod Collected
mod Compared
mod Confluent
mod Equated
mod Exact
mod Gathering
mod Limits
mod Measured
pub mod Mentioned
pub mod Monos
mod NarrowParts
mod NormalForms
mod NormalValues
pub mod Numbers
mod Turning
mod OrderLaws
mod Outside
mod Parts
mod Pivots
pub mod Progress
mod Rule
mod Scaled
mod Settled
mod Signs
mod Sizes
mod Small
mod Solved
mod Solving
mod Substituted
mod Unique
pub mod WalkParts
pub mod Weights
mod Wides
