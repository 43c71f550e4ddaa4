pub mod SpecTexts
pub mod Tags
pub mod Ranges
pub mod Forms
pub mod Refusals
pub mod Entries
pub mod Laws
pub mod ReadingLaw
