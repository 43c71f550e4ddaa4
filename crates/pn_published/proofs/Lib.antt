mod Rising
mod VersionOrders
mod PlaceLemmas
mod ChoiceLemmas
mod Gathered
mod SaidLemmas
mod NameFolders
pub mod OneShelf
pub mod ListsOnceLemmas
