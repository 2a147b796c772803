pub mod Adjacent
pub mod InRange
pub mod OnTheWay
pub mod Pieces
pub mod Rows
pub mod SiteCounts
mod Assigned
mod Assoc
mod Branches
mod Carried
mod Turns
mod Inners
pub mod Layouts
mod SmallItems
pub mod SmallNumbers
pub mod UnitAt
mod Wrapped
