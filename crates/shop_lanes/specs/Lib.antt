pub mod Eights
pub mod Folds
pub mod Rows
pub mod Spans
pub mod Marks
pub mod SetBits
pub mod Ends
pub mod inner
