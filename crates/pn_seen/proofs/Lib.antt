mod SearchLemmas
mod LeftLemmas
mod SortLemmas
mod CountedLemmas
pub mod AskedLemmas
