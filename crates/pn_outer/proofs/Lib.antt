mod FoundLemmas
mod ExploreLemmas
mod EdgeLemmas
mod HolderLemmas
mod PairLemmas
mod OuterLemmas
mod RangeLemmas
