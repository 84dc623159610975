pub mod Gathered
pub mod Steps
pub mod Turns
pub mod Returns
