-- what contracts cite
pub mod Cuts
pub mod Paths
pub mod Folders
pub mod PathLaw
pub mod Numbers
pub mod Ordinals
pub mod Groups
