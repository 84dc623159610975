-- Definitions that no public law uses.
pub mod Choosing
pub mod HeldNodes
pub mod Indices
