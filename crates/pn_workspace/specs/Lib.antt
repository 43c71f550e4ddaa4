pub mod Roots
pub mod Contents
pub mod Workspaces
pub mod Stores
pub mod Laws
