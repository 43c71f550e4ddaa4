pub mod Gaps
pub mod PartsLemmas
pub mod Braces
pub mod Heads
pub mod LawProofs
pub mod LeftToRight
pub mod Settled
