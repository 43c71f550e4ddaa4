pub mod Rows
pub mod Asked
pub mod Spots
pub mod Differences
pub mod Fits
