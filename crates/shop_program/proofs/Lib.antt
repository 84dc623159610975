pub mod Commands
pub mod Getters
pub mod LineReads
pub mod Refusals
