-- what contracts cite, here and above
pub mod Settling
pub mod LockTexts
pub mod ReadLaw
-- worked faults
pub mod ReadSamples
-- what contracts within this crate cite
pub mod Answers
