pub mod Digests
pub mod Folders
pub mod Hashing
pub mod Lines
pub mod Listing
pub mod ListingFaults
pub mod PlannedTrees
