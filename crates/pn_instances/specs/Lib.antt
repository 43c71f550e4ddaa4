pub mod Instances
pub mod Lookups
pub mod Singles
pub mod Rows
