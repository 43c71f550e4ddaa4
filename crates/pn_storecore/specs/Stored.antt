-- Bytes that may stand at an address.
use Rattle.std.specs.Prelude.{◌≡◌, ℕ, ◌≤◌, List, length}
use Rattle.std.specs.List.{All}
use Rattle.sha2.specs.Sha512.{sha512}
use Rattle.pn_text.specs.declared.limits.TheConstants.{FILE_LIMIT}
use Rattle.pn_digest.specs.Listing.{Entry, IsListingText, Names}
use Rattle.pn_storecore.specs.World.{Objects, Stands}

-- A file's bytes at an address.
pub record IsStoredFile (at bytes : List ℕ) : Type 0 where
  pub addressed : sha512 bytes ≡ at
  pub short : length bytes ≤ FILE_LIMIT

-- each file of the listing stands
abbrev pub AllStand : Objects → List Entry → Type 0
AllStand files entries = All (λ (e : Entry). Stands files e.1) entries

-- The text of a listing each file of which stands.
pub record IsWhole (files : Objects) (bytes : List ℕ) : Type 0 where
  pub text : IsListingText bytes
  pub named : (file : List ℕ) → Names bytes file → Stands files file

-- Such a text at an address.
pub record IsStoredListing (files : Objects) (at bytes : List ℕ) : Type 0 where
  pub addressed : sha512 bytes ≡ at
  pub whole : IsWhole files bytes
