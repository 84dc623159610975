-- Definitions that only contracts inside the crate name.
pub mod Arguments
pub mod Runs
