-- what contracts cite, here and above
pub mod Members
pub mod TargetTexts
pub mod LockData
pub mod Laws
-- worked examples
pub mod LockSamples
-- what contracts within this crate cite
pub mod FolderParts
pub mod Runs
