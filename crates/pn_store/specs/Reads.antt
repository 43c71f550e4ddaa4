-- What a call read, by the bytes that stood at an address at steps of it.
use Rattle.std.specs.Prelude.{◌≡◌, ◌≢◌, ◌⊎◌, ℕ, Bool, true, false, List, Vec, Option, Some, None, IfSome}
use Rattle.std.specs.Option.{option_map}
use Rattle.std.specs.Global.{Global}
use Rattle.sha2.specs.Sha512.{sha512}
use Rattle.pn_text.specs.Causes.{Rose}
use Rattle.pn_digest.specs.Listing.{IsListingText, Names}
use Rattle.pn_storecore.specs.declared.step.Place.TheVariants.{Files, Listings}
use Rattle.pn_store.specs.declared.fault.ReadFault.{ReadFault}
use Rattle.pn_store.specs.declared.fault.ReadFault.TheVariants.{Fault, Damaged, Memory}
use Rattle.pn_storecore.specs.declared.step.Place.{Place}
use Rattle.pn_storecore.specs.Seen.{Seen}
use Rattle.pn_storecore.specs.Sound.{MayStand}
use Rattle.pn_storecore.specs.Held.{HasObject, IsAddressedStore, IsSoundStore}
use Rattle.pn_storecore.specs.Grew.{Grew, Was, ReadTo}

-- At steps between, two different byte lists stood at the address.
pub record Changed (place : Place) (at : List ℕ) (old new : Seen) : Type 0 where
  pub one : List ℕ
  pub other : List ℕ
  pub differ : one ≢ other
  pub first : Was place at (Some one) old new
  pub second : Was place at (Some other) old new

-- These bytes stood there, unless others did too. So with one list of bytes at the address a reader reads that list.
abbrev pub StoodThere : Place → List ℕ → List ℕ → Seen → Seen → Type 0
StoodThere place at bytes old new = Was place at (Some bytes) old new ⊎ Changed place at old new

-- whether something stood at a listing's address
abbrev pub IsThere : List ℕ → Seen → Seen → Bool → Type 0
IsThere at old new true = (bytes : List ℕ) × Was Listings at (Some bytes) old new
IsThere at old new false = Was Listings at None old new

-- one piece of a file, by the bytes that stood at a step of the call
abbrev pub IsPieceRead : List ℕ → ℕ → List ℕ → Option ℕ → Seen → Seen → Type 0
IsPieceRead at from into found old new = IfSome old.journal (λ j. ReadTo Files at from into found j new.journal)

-- the bytes of what was found
abbrev pub found_bytes : Option (Vec ℕ Global) → Option (List ℕ)
found_bytes found = option_map (λ (v : Vec ℕ Global). v.items) found

-- the bytes that stood at a listing's address, or nothing did
abbrev pub IsTextRead : List ℕ → Seen → Seen → Option (List ℕ) → Type 0
IsTextRead at old new (Some bytes) = StoodThere Listings at bytes old new
IsTextRead at old new None = Was Listings at None old new

-- The text of the listing stood there and has the address as digest. There is none where nothing stood there, or bytes
-- of that digest that are no listing's text.
abbrev pub IsListingRead : List ℕ → Seen → Seen → Option (List ℕ) → Type 0
IsListingRead at old new (Some text) = (sha512 text ≡ at) × IsListingText text × StoodThere Listings at text old new
IsListingRead at old new None = Was Listings at None old new ⊎ ((bytes : List ℕ) × (sha512 bytes ≡ at) × (IsListingText bytes → ⊥) × StoodThere Listings at bytes old new)

-- Bytes of another digest stood at the address.
pub record IsDamaged (place : Place) (at found : List ℕ) (old new : Seen) : Type 0 where
  pub bytes : List ℕ
  pub digest : sha512 bytes ≡ found
  pub other : found ≢ at
  pub stood : StoodThere place at bytes old new

-- why nothing was read
abbrev pub ReadRefused : Seen → Seen → ReadFault → Type 0
ReadRefused old new Fault = Rose old.faults new.faults
ReadRefused old new Memory = Unit {0}
ReadRefused old new e = ⊥

-- why no listing was read
abbrev pub ListingRefused : List ℕ → Seen → Seen → ReadFault → Type 0
ListingRefused at old new (Damaged asked found) = (asked ≡ at) × IsDamaged Listings at found old new
ListingRefused at old new e = ReadRefused old new e

-- In a told store that isn't damaged, bytes that stood there are right for their address, unless others stood there too.
abbrev pub WrongLaw : Type 0
WrongLaw = (place : Place) (at bytes : List ℕ) (old new : Seen) → Grew old new → IsAddressedStore old → StoodThere place at bytes old new → IfSome old.journal (λ j. MayStand place at bytes ⊎ Changed place at old new)

-- In a told store that was sound, each file that a listing names which stood there stands at the end, unless another
-- listing stood there too.
abbrev pub FoundLaw : Type 0
FoundLaw = (at text : List ℕ) (old new : Seen) → Grew old new → IsSoundStore old → StoodThere Listings at text old new → IfSome old.journal (λ j. ((file : List ℕ) → Names text file → HasObject new Files file) ⊎ Changed Listings at old new)
