pub mod Contents
pub mod Reads
pub mod Texts
pub mod Rewrites
pub mod Laws
