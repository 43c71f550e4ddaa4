mod Bytes
mod Slashes
mod Versions
mod Dirs
pub mod RisingLemmas
mod SoundLemmas
pub mod AlikeLemmas
mod NearLemmas
mod PathLemmas
pub mod FindingLemmas
pub mod CauseLemmas
mod OuterLemmas
mod HomeLemmas
mod ZipLemmas
mod RowLemmas
