pub mod Drawing
pub mod Entries
pub mod Sheets
pub mod Finished
pub mod Laws
