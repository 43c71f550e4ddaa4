pub mod RewritesLemmas
pub mod AnswerLemmas
mod FoundLemmas
