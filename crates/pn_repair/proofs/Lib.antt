pub mod WroteAtLemmas
pub mod AnswerLemmas
pub mod FitsLemmas
pub mod FrontLemmas
pub mod ReadsStoreLemmas
pub mod RepairedLemmas
pub mod NeedsLemmas
pub mod GaveLemmas
