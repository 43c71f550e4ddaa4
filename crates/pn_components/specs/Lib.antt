-- what contracts cite
pub mod Graphs
pub mod Rows
pub mod Walks
pub mod WalkStates
