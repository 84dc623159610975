pub mod Members
mod Counting
mod FirstOn
pub mod BetterChildren
pub mod WalkSteps
pub mod HighWalks
pub mod SearchLaw
pub mod Found
pub mod NodeLemmas
pub mod ChildrenLemmas
mod PlacedLemmas
mod ChoosingLemmas
pub mod LeftLemmas
pub mod Rows
