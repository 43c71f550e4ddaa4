-- for the crates above
pub mod FolderLemmas
pub mod KeptLemmas
