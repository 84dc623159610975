pub mod Opening
pub mod Cutting
pub mod OpenLemmas
pub mod SheetLemmas
pub mod StandingLemmas
pub mod Covering
pub mod Counting
pub mod SortLemmas
pub mod NodeLemmas
pub mod StartLemmas
pub mod PieceLemmas
pub mod GatherLemmas
pub mod OutcomeLemmas
pub mod EntryLemmas
pub mod RoundPieces
pub mod GatheredLemmas
mod OpenWords
pub mod Rows
pub mod Trusting
pub mod Answering
pub mod KeptBelow
pub mod TreeSizes
pub mod Ending
pub mod CoverRows
pub mod StackLemmas
mod BoundRowLemmas
pub mod StoreLemmas
mod DistantLemmas
mod PutLemmas
mod DistantLists
mod DistantRuns
mod DistantRounds
mod Ways
pub mod KeptLemmas
pub mod FrontLemmas
pub mod FrontCuts
mod OrderWords
pub mod OpenSizes
pub mod OpenCounts
