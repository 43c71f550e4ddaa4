-- Which steps are lawful for an installer.
use Rattle.std.specs.Prelude.{◌≡◌, ◌≢◌, ◌⊎◌, ℕ, true, List, [], ◌∷◌, Option, Some, None}
use Rattle.std.specs.List.{AllByRecursion}
use Rattle.pn_storecore.specs.declared.step.StoreStep.{StoreStep}
use Rattle.pn_storecore.specs.declared.step.StoreStep.TheVariants.{Claim, Create, Append, Shard, PublishFile, PublishListing, DropTemp, Read, Discard}
use Rattle.pn_storecore.specs.World.{World, owner_of, content, first_byte}
use Rattle.pn_storecore.specs.Stored.{IsStoredFile, IsStoredListing}
use Rattle.pn_storecore.specs.Steps.{Event, Journal, after}

pub record CanCreate (who k n : ℕ) (w : World) : Type 0 where
  pub owned : owner_of w k ≡ Some who
  pub absent : content w k n ≡ None

pub record CanAppend (who k n : ℕ) (w : World) : Type 0 where
  pub owned : owner_of w k ≡ Some who
  pub stands : content w k n ≢ None

-- A temporary file may be published as a file at an address.
pub record CanPublishFile (who k n : ℕ) (at : List ℕ) (w : World) : Type 0 where
  pub owned : owner_of w k ≡ Some who
  pub bytes : List ℕ
  pub stands : content w k n ≡ Some bytes
  pub stored : IsStoredFile at bytes
  pub shard : w.files.shards (first_byte at) ≡ true

-- A temporary file may be published as a listing at an address. Each file that it names stands.
pub record CanPublishListing (who k n : ℕ) (at : List ℕ) (w : World) : Type 0 where
  pub owned : owner_of w k ≡ Some who
  pub bytes : List ℕ
  pub stands : content w k n ≡ Some bytes
  pub stored : IsStoredListing w.files at bytes
  pub shard : w.listings.shards (first_byte at) ≡ true

-- One file may be dropped, and a folder in which no file is left.
pub record CanDrop (who k : ℕ) (n : Option ℕ) (w : World) : Type 0 where
  pub owned : owner_of w k ≡ Some who
  pub bare : n ≡ None → (m : ℕ) → content w k m ≡ None

-- the installer may make the step in this world; nobody may discard
abbrev pub IsLawful : ℕ → StoreStep → World → Type 0
IsLawful who (Claim k) w = Unit {0}
IsLawful who (Create k n) w = CanCreate who k n w
IsLawful who (Append k n more) w = CanAppend who k n w
IsLawful who (Shard place first) w = Unit {0}
IsLawful who (PublishFile k n at) w = CanPublishFile who k n at w
IsLawful who (PublishListing k n at) w = CanPublishListing who k n at w
IsLawful who (DropTemp k n) w = CanDrop who k n w
IsLawful who Read w = Unit {0}
IsLawful who (Discard what) w = ⊥

-- each of the steps is lawful at its place
abbrev pub AreLawful : World → Journal → Type 0
AreLawful w [] = Unit {0}
AreLawful w (e ∷ es) = IsLawful e.0 e.1 w × AreLawful (after e.0 e.1 w) es

-- none of the steps is this installer's
abbrev pub AreOthers : ℕ → Journal → Type 0
AreOthers me steps = AllByRecursion (λ (e : Event). e.0 ≢ me) steps

-- the ninth kind of step
abbrev pub IsDiscard : StoreStep → Type 0
IsDiscard (Discard what) = Unit {0}
IsDiscard step = ⊥

-- each of the steps is lawful at its place, or discards something
abbrev pub AreLawfulOrDiscards : World → Journal → Type 0
AreLawfulOrDiscards w [] = Unit {0}
AreLawfulOrDiscards w (e ∷ es) = (IsLawful e.0 e.1 w ⊎ IsDiscard e.1) × AreLawfulOrDiscards (after e.0 e.1 w) es
