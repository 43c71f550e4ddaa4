pub mod Pieces
pub mod Small
