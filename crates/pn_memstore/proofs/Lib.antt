pub mod WithBytesLemmas
pub mod AreAddressesLemmas
pub mod AloneLemmas
pub mod IsWholeLemmas
pub mod OthersCameLemmas
pub mod DueCameLemmas
pub mod ToComeLemmas
pub mod RisesToLemmas
