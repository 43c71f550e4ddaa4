pub mod Graphs
pub mod PeerRanges
pub mod Lookups
pub mod Reaches
pub mod ReachLaw
pub mod FreeNames
pub mod Founds
pub mod Rows
