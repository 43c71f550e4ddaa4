-- What an installer's own steps were between two states of the store.
use Rattle.std.specs.Prelude.{◌≡◌, ◌⊎◌, ℕ, ◌∷◌, ◌++◌, Option, Some, IfSome}
use Rattle.std.specs.List.{AllByRecursion}
use Rattle.pn_storecore.specs.declared.step.Place.{Place}
use Rattle.pn_storecore.specs.declared.step.Place.TheVariants.{Files, Listings}
use Rattle.pn_storecore.specs.declared.step.StoreStep.{StoreStep}
use Rattle.pn_storecore.specs.declared.step.StoreStep.TheVariants.{Claim, Create, Append, Shard, PublishFile, PublishListing, DropTemp, Read, Discard}
use Rattle.pn_storecore.specs.Steps.{Event, Journal}
use Rattle.pn_storecore.specs.World.{first_byte}
use Rattle.pn_storecore.specs.Seen.{Seen, Keeps}

-- each step of this installer's is such a one
abbrev pub AreOwn : (StoreStep → Type 0) → ℕ → Journal → Type 0
AreOwn P me steps = AllByRecursion (λ (e : Event). e.0 ≡ me → P e.1) steps

-- The new journal is the old one with such steps behind.
pub record MadeTo (P : StoreStep → Type 0) (me : ℕ) (old : Journal) (new : Option Journal) : Type 0 where
  pub steps : Journal
  pub own : AreOwn P me steps
  pub came : new ≡ Some (old ++ steps)

-- The installer's number is kept, and each step that it made between is such a one.
pub record Made (P : StoreStep → Type 0) (old new : Seen) : Type 0 where
  pub kept : Keeps old new
  pub journal : IfSome old.journal (λ j. MadeTo P old.me j new.journal)

-- the step claims a number
abbrev pub IsClaimStep : StoreStep → Type 0
IsClaimStep (Claim k) = Unit {0}
IsClaimStep step = ⊥

-- the step reads
abbrev pub IsReadStep : StoreStep → Type 0
IsReadStep Read = Unit {0}
IsReadStep step = ⊥

-- the step drops the number's folder, or a file in it
abbrev pub IsDropOf : ℕ → StoreStep → Type 0
IsDropOf k (DropTemp q n) = q ≡ k
IsDropOf k step = ⊥

-- the step is on file 0 of the number's folder, makes a shard folder, or reads
abbrev pub IsPutStep : ℕ → StoreStep → Type 0
IsPutStep k (Claim q) = ⊥
IsPutStep k (Create q n) = (q ≡ k) × (n ≡ 0)
IsPutStep k (Append q n more) = (q ≡ k) × (n ≡ 0)
IsPutStep k (Shard place first) = Unit {0}
IsPutStep k (PublishFile q n at) = (q ≡ k) × (n ≡ 0)
IsPutStep k (PublishListing q n at) = (q ≡ k) × (n ≡ 0)
IsPutStep k (DropTemp q n) = (q ≡ k) × (n ≡ Some 0)
IsPutStep k Read = Unit {0}
IsPutStep k (Discard taken) = ⊥

-- the step makes this shard folder
abbrev pub IsShard : Place → ℕ → StoreStep → Type 0
IsShard place first step = step ≡ Shard place first

-- the step moves nothing to an address, and makes no shard folder
abbrev pub IsNoPublish : StoreStep → Type 0
IsNoPublish (Shard place first) = ⊥
IsNoPublish (PublishFile k n at) = ⊥
IsNoPublish (PublishListing k n at) = ⊥
IsNoPublish step = Unit {0}

-- the step makes the shard folder of the address to which this one moves something
abbrev pub IsShardOf : StoreStep → StoreStep → Type 0
IsShardOf (PublishFile k n at) step = IsShard Files (first_byte at) step
IsShardOf (PublishListing k n at) step = IsShard Listings (first_byte at) step
IsShardOf own step = ⊥

-- the step moves nothing to an address, and makes no shard folder but that one
abbrev pub IsBeside : StoreStep → StoreStep → Type 0
IsBeside own step = IsNoPublish step ⊎ IsShardOf own step

-- no step of this installer's between moved something to an address or made a shard folder
abbrev pub PublishedNone : Seen → Seen → Type 0
PublishedNone old new = Made IsNoPublish old new

-- The new journal is the old one with steps behind, of which this is the only one of the installer's that moves
-- something to an address. It makes no shard folder but that of the address.
pub record PublishedOneTo (own : StoreStep) (me : ℕ) (old : Journal) (new : Option Journal) : Type 0 where
  pub front : Journal
  pub back : Journal
  pub before : AreOwn (IsBeside own) me front
  pub behind : AreOwn (IsBeside own) me back
  pub came : new ≡ Some (old ++ front ++ (me, own) ∷ back)

-- The installer's number is kept, and it made this step between, and no other that moves something to an address, nor
-- a shard folder but that of the address.
pub record PublishedOne (own : StoreStep) (old new : Seen) : Type 0 where
  pub kept : Keeps old new
  pub journal : IfSome old.journal (λ j. PublishedOneTo own old.me j new.journal)

-- The same, or it made none that does.
pub record PublishedAtMost (own : StoreStep) (old new : Seen) : Type 0 where
  pub kept : Keeps old new
  pub journal : IfSome old.journal (λ j. MadeTo (IsBeside own) old.me j new.journal ⊎ PublishedOneTo own old.me j new.journal)
