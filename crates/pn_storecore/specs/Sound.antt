-- Sound worlds.
use Rattle.std.specs.Prelude.{◌≡◌, ℕ, List, Some}
use Rattle.sha2.specs.Sha512.{sha512}
use Rattle.pn_storecore.specs.declared.step.Place.{Place}
use Rattle.pn_storecore.specs.declared.step.Place.TheVariants.{Files, Listings}
use Rattle.pn_storecore.specs.World.{World, owner_of}
use Rattle.pn_storecore.specs.Stored.{IsStoredFile, IsStoredListing}

-- What stands at an address has it as digest, and a number has one owner. The latter is so of every
-- world, by the shape of its folders.
pub record IsSound (w : World) : Type 0 where
  pub files : (at bytes : List ℕ) → w.files.bytes at ≡ Some bytes → IsStoredFile at bytes
  pub listings : (at bytes : List ℕ) → w.listings.bytes at ≡ Some bytes → IsStoredListing w.files at bytes
  pub owners : (k a b : ℕ) → owner_of w k ≡ Some a → owner_of w k ≡ Some b → a ≡ b

-- bytes that have the address as digest, and of a file are not too many
abbrev pub MayStand : Place → List ℕ → List ℕ → Type 0
MayStand Files at bytes = IsStoredFile at bytes
MayStand Listings at bytes = sha512 bytes ≡ at

-- Such bytes stand at each address. It is so of a sound world, and stays so where a prune takes files away
-- that a listing names.
pub record IsAddressed (w : World) : Type 0 where
  pub files : (at bytes : List ℕ) → w.files.bytes at ≡ Some bytes → MayStand Files at bytes
  pub listings : (at bytes : List ℕ) → w.listings.bytes at ≡ Some bytes → MayStand Listings at bytes
