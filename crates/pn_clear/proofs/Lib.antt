pub mod RisesLemmas
pub mod WithoutLemmas
