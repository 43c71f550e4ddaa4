pub mod ShownLemmas
pub mod SettledLemmas
pub mod WordsLemmas
mod LeadsLemmas
mod StartLemmas
mod StopLemmas
mod SoundLemmas
mod ManifestLemmas
mod VersionLemmas
mod FitLemmas
mod CachedLemmas
mod SeekLemmas
mod CallsLemmas
