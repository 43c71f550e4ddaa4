pub mod AimLemmas
pub mod PlainLemmas
pub mod ChosenLemmas
pub mod EdgeLemmas
pub mod AnswerLemmas
pub mod SeenLemmas
pub mod WishLemmas
pub mod GraphRowLemmas
