pub mod Ends
pub mod Foreign
pub mod Ats
pub mod LawProofs
pub mod Puts
pub mod Named
pub mod OneReading
