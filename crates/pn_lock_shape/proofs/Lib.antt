-- for the crates above
pub mod SortLemmas
pub mod ApartLemmas
pub mod EntryLemmas
pub mod PlaceLemmas
pub mod MapLemmas
pub mod FolderLemmas
pub mod DigestLemmas
pub mod OnceLemmas
pub mod IdLemmas
pub mod GroupLemmas
pub mod HaveLemmas
pub mod NameLemmas
pub mod DraftLemmas
