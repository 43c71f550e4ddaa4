pub mod Asks
pub mod Projects
pub mod Wants
pub mod Integrities
pub mod Rows
