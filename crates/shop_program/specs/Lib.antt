pub mod LineFaults
pub mod CommandLine
pub mod Statuses
pub mod Commands
pub mod Running
pub mod inner
