-- Points of a run, and how they follow one another.
use Rattle.std.specs.Prelude.{◌≡◌, ◌≢◌, ◌⊎◌, ℕ, List, Option, Some, IfSome, Bool, true, false}
use Rattle.sha2.specs.Sha512.{sha512}
use Rattle.pn_text.specs.Causes.{Rose}
use Rattle.pn_text.specs.Path.{Path}
use Rattle.pn_fs.specs.Tree.{Tree, file}
use Rattle.pn_storecore.specs.declared.step.Place.TheVariants.{Files}
use Rattle.pn_storecore.specs.Seen.{Seen as Stored}
use Rattle.pn_store.specs.declared.number.TheConstants.{NUMBERS}
use Rattle.pn_store.specs.Claims.{AreTaken}
use Rattle.pn_store.specs.Reads.{StoodThere}
use Rattle.pn_repair.specs.RepairFaults.{IsWrongFile}
use Rattle.pn_status.specs.declared.status.IntegrityWhy.TheVariants.{Stored as of_store}
use Rattle.pn_status.specs.declared.status.Which.TheVariants.{Numbers}
use Rattle.pn_status.specs.declared.status.Status.{Status}
use Rattle.pn_status.specs.declared.status.Status.TheVariants.{Memory, Integrity, Limit, DigestClash, ProjectFault, StoreFault, RegistryFault, SinkFault}
use Rattle.pn_cmd.specs.World.{World, Trees, Shown, shown}

-- What is found at a point, from what is known before it, and why it refuses. A point that asks a device has a cause
-- for that device's fault, which says what holds besides; one that doesn't ask it has none.
pub record Point (X Y : Type 0) : Type 1 where
  pub Finds : X → Trees → Y → Type 0
  pub Cause : X → Shown → Status → Type 0

-- Two byte lists have this digest: one stood in the store at it at a step between, the other is a file's of the registry;
-- where the registry is told they differ.
pub record Clashed (registry : Option Tree) (at : List ℕ) (old new : Stored) : Type 0 where
  pub path : Path
  pub stored : List ℕ
  pub own : List ℕ
  pub first : sha512 stored ≡ at
  pub second : sha512 own ≡ at
  pub source : IfSome registry (λ r. (r path ≡ Some (file own)) × (stored ≢ own))
  pub stood : StoodThere Files at stored old new

-- What a refusal rests on, between two states of the outside. Memory is free, and a fault is answered only where that
-- device's count rose. What only the steps of a shared store show is said here too: a clash of digests, what a digest's address
-- had in place of its file, and that each of the store's numbers was found taken.
abbrev pub Refuses : (Shown → Status → Type 0) → World → World → Status → Type 0
Refuses C old new Memory = Unit {0}
Refuses C old new ProjectFault = Rose old.project.faults new.project.faults × C (shown old) ProjectFault
Refuses C old new StoreFault = Rose old.store.faults new.store.faults × C (shown old) StoreFault
Refuses C old new (Integrity (of_store at found)) = IsWrongFile at found old.store new.store × C (shown old) (Integrity (of_store at found))
Refuses C old new (DigestClash at) = Clashed old.registry.tree at old.store new.store × C (shown old) (DigestClash at)
Refuses C old new (Limit Numbers n) = AreTaken NUMBERS old.store new.store × C (shown old) (Limit Numbers n)
Refuses C old new RegistryFault = Rose old.registry.faults new.registry.faults × C (shown old) RegistryFault
Refuses C old new SinkFault = Rose old.out.faults new.out.faults × C (shown old) SinkFault
Refuses C old new s = C (shown old) s

-- Both points are passed: what the first one finds is known at the second.
pub record Both {X Y Z : Type 0} (p : Point X Y) (q : Point Y Z) (x : X) (t : Trees) (z : Z) : Type 0 where
  pub value : Y
  pub first : p.Finds x t value
  pub rest : q.Finds value t z

-- The first one refuses, or it is passed and the second one does.
abbrev pub OneOf : {X Y Z : Type 0} → Point X Y → Point Y Z → X → Shown → Status → Type 0
OneOf p q x w s = p.Cause x w s ⊎ ((y : _) × p.Finds x w.trees y × q.Cause y w s)

-- one point, and then another
abbrev pub then : {X Y Z : Type 0} → Point X Y → Point Y Z → Point X Z
then p q = record { Finds = Both p q; Cause = OneOf p q }

-- A point that asks for a part of what is known, and adds what it finds.
pub record Added {A X Y Z : Type 0} (ask : X → A) (add : X → Y → Z) (p : Point A Y) (x : X) (t : Trees) (z : Z) : Type 0 where
  pub value : Y
  pub found : p.Finds (ask x) t value
  pub is : z ≡ add x value

abbrev pub step : {A X Y Z : Type 0} → (X → A) → (X → Y → Z) → Point A Y → Point X Z
step ask add p = record { Finds = Added ask add p; Cause = λ x. p.Cause (ask x) }

-- one of two, by what is known
abbrev pub of_two : Bool → Type 0 → Type 0 → Type 0
of_two true A B = A
of_two false A B = B

abbrev pub by_cases : {X Y : Type 0} → (X → Bool) → Point X Y → Point X Y → Point X Y
by_cases test p q = record { Finds = λ x t y. of_two (test x) (p.Finds x t y) (q.Finds x t y); Cause = λ x w s. of_two (test x) (p.Cause x w s) (q.Cause x w s) }

-- answers that the trees don't settle
abbrev pub IsFree : Status → Type 0
IsFree Memory = Unit {0}
IsFree ProjectFault = Unit {0}
IsFree StoreFault = Unit {0}
IsFree (Integrity (of_store at found)) = Unit {0}
IsFree (DigestClash at) = Unit {0}
IsFree (Limit Numbers n) = Unit {0}
IsFree RegistryFault = Unit {0}
IsFree SinkFault = Unit {0}
IsFree s = ⊥

-- Where a point is passed, nothing but those is left to it.
abbrev pub Excludes : {X Y : Type 0} → Point X Y → (Shown → Type 0) → Type 0
Excludes p Told = (x : _) (w : Shown) (y : _) (s : Status) → Told w → p.Finds x w.trees y → p.Cause x w s → IsFree s
