pub mod Searches
pub mod inner
