-- Why files make no listing, and why bytes are none.
use Rattle.std.specs.Prelude.{◌≡◌, ◌⊎◌, ℕ, ◌<◌, true, List, ◌∷◌, ◌++◌, Some, slice_get}
use Rattle.std.specs.List.{Contains}
use Rattle.pn_text.specs.Path.{Path}
use Rattle.pn_digest.specs.Listing.{Entry, rel_text, has_feed, IsListingText}
use Rattle.pn_digest.specs.declared.fault.ListingFault.{ListingFault}
use Rattle.pn_digest.specs.declared.fault.ListingFault.TheVariants.{BadPath, Twice, NotListing, Memory}

-- One of the files lies below this path.
pub record HasBelow (files : List Entry) (p : Path) : Type 0 where
  pub part : List ℕ
  pub down : Path
  pub digest : List ℕ
  pub stands : Contains files (part ∷ down ++ p, digest)

-- The path at this place has a line feed, or is a folder of another one.
pub record IsBadAt (files : List Entry) (at : ℕ) : Type 0 where
  pub entry : Entry
  pub stands : slice_get files at ≡ Some entry
  pub bad : (has_feed (rel_text entry.0) ≡ true) ⊎ HasBelow files entry.0

-- The path at this place stands at an earlier place too.
pub record IsTwiceAt (files : List Entry) (at : ℕ) : Type 0 where
  pub path : Path
  pub digest : List ℕ
  pub stands : slice_get files at ≡ Some (path, digest)
  pub place : ℕ
  pub earlier : place < at
  pub digest_there : List ℕ
  pub stands_there : slice_get files place ≡ Some (path, digest_there)

-- It is so there, and at no place before.
pub record IsFirst (P : ℕ → Type 0) (at : ℕ) : Type 0 where
  pub here : P at
  pub none : (k : ℕ) → k < at → P k → ⊥

-- nowhere is it so
abbrev pub IsNowhere : (ℕ → Type 0) → Type 0
IsNowhere P = (k : ℕ) → P k → ⊥

abbrev pub FilesRefused : List Entry → ListingFault → Type 0
FilesRefused files (BadPath at) = IsFirst (IsBadAt files) at
FilesRefused files (Twice at) = IsNowhere (IsBadAt files) × IsFirst (IsTwiceAt files) at
FilesRefused files NotListing = ⊥
FilesRefused files Memory = Unit {0}

-- bytes are refused where they aren't so, and for want of memory
abbrev pub UnlessSo : Type 0 → ListingFault → Type 0
UnlessSo P (BadPath at) = ⊥
UnlessSo P (Twice at) = ⊥
UnlessSo P NotListing = P → ⊥
UnlessSo P Memory = Unit {0}

abbrev pub BytesRefused : List ℕ → ListingFault → Type 0
BytesRefused bytes fault = UnlessSo (IsListingText bytes) fault
