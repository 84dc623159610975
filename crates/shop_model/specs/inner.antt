pub mod Steps
pub mod Intervals
pub mod ClearIntervals
pub mod FirstFaults
pub mod Entries
