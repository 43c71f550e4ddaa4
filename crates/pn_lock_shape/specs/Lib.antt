-- what contracts cite, here and above
pub mod Bare
pub mod Keys
pub mod Shapes
pub mod Answers
pub mod Targets
pub mod Reading
pub mod Kept
-- proofs of the laws of entries
pub mod OwnKeys
