pub mod Entries
pub mod Views
pub mod Moments
pub mod Moves
pub mod Seats
pub mod Winners
pub mod Works
pub mod inner
