pub mod FixedRows
pub mod Layings
pub mod MachineLists
pub mod RankCounts
pub mod RouteRows
pub mod Vectors
pub mod Widths
