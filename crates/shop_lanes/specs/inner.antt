pub mod Passes
pub mod LaterHeads
pub mod OwnSpans
