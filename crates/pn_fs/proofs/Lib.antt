pub mod Puts
pub mod Kept
pub mod NodeLemmas
pub mod Listings
pub mod SeenLemmas
pub mod PieceLemmas
