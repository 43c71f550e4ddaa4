pub mod Locks
pub mod Folders
pub mod Kept
pub mod Links
