pub mod NodeLists
pub mod Outcomes
pub mod KeptStacks
pub mod BoundRows
pub mod Searches
pub mod Stacks
pub mod Stores
pub mod Distant
