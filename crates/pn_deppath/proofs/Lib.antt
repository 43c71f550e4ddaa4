-- for the crates above
pub mod VersionBytes
pub mod IdBytes
pub mod PathLemmas
mod AsciiLemmas
mod SpelledLemmas
mod NumberingLemmas
mod NumberLemmas
mod OrdinalLemmas
mod CountLemmas
mod FolderLemmas
