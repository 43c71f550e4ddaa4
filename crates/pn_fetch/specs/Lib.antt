pub mod Listings
pub mod Puts
pub mod Steps
pub mod Numbers
pub mod Faults
pub mod Laws
