pub mod Walks
pub mod Targets
pub mod Kept
pub mod Places
pub mod Production
pub mod Rows
