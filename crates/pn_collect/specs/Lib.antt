pub mod Outline
pub mod CollectFaults
pub mod Packages
pub mod Laws
