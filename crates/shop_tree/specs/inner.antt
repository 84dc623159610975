-- Definitions that only contracts inside the crate use.
pub mod Searching
pub mod Opens
pub mod Walkers
pub mod Held
pub mod Tried
pub mod WalkStates
pub mod StateWalkers
pub mod LaneWalkers
