pub mod Find
pub mod Rows
pub mod LinkRows
pub mod Plan
pub mod Finds
pub mod Steps
pub mod Legs
pub mod Lookups
