pub mod RootLemmas
pub mod SearchLemmas
pub mod FoundLemmas
pub mod AnswerLemmas
pub mod PlaceLemmas
