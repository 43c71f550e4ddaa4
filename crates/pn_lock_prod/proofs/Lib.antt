mod FoundLemmas
mod ExploreLemmas
mod ListLemmas
mod RangeLemmas
mod MarkLemmas
mod ProductionLemmas
mod RowLemmas
