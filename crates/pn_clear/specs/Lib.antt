pub mod Items
pub mod Clearing
