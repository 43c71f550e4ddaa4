pub mod WritesLemmas
pub mod ReplacesLemmas
pub mod RemovesLemmas
