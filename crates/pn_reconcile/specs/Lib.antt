pub mod Plans
pub mod Spares
pub mod Needs
pub mod Bounds
pub mod Phases
