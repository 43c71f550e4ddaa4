pub mod Store
pub mod Listed
pub mod Layout
pub mod Laws
pub mod Near
pub mod Places
