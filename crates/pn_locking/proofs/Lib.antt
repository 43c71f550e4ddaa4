mod PlaceLemmas
mod SplitLemmas
mod AskedLemmas
mod WantedLemmas
mod MadeLemmas
