pub mod Replaces
pub mod Writes
pub mod Removes
