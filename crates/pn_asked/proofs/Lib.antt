-- for the crates above
pub mod FindLemmas
pub mod FitsLemmas
mod SpotLemmas
