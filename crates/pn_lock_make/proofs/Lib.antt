-- for the crates above
pub mod OrderLemmas
pub mod OneOrder
pub mod SortLemmas
mod ListLemmas
mod ImporterLemmas
mod PackageLemmas
mod SnapshotLemmas
mod EntryLemmas
mod FitLemmas
mod StepLemmas
mod PassedLemmas
mod GraphLemmas
mod WholeLemmas
mod RowLemmas
mod SingleLemmas
