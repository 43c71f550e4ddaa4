pub mod Maps
pub mod Kept
pub mod Sets
pub mod Came
pub mod Script
pub mod Sorting
pub mod Schedule
pub mod Stores
