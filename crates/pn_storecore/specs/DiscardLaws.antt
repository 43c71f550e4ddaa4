-- What discards make of a store, and what a prune knows that runs alone on it.
use Rattle.std.specs.Prelude.{◌≡◌, ◌⊎◌, ℕ, List, ◌++◌, Option, Some, Result, IfOk, OnOk, IfSome, Vec}
use Rattle.std.specs.List.{AllByRecursion}
use Rattle.std.specs.Option.{ForSome}
use Rattle.std.specs.Global.{Global}
use Rattle.pn_text.specs.declared.fault.DevFault.{DevFault}
use Rattle.pn_digest.specs.Listing.{Names}
use Rattle.pn_storecore.specs.declared.step.Place.{Place}
use Rattle.pn_storecore.specs.declared.step.Place.TheVariants.{Files, Listings}
use Rattle.pn_storecore.specs.declared.step.Discard.{Discard}
use Rattle.pn_storecore.specs.declared.step.Discard.TheVariants as what
use Rattle.pn_storecore.specs.declared.step.StoreStep.{StoreStep}
use Rattle.pn_storecore.specs.declared.step.StoreStep.TheVariants as step
use Rattle.pn_storecore.specs.World.{World, objects}
use Rattle.pn_storecore.specs.Steps.{Event, Journal, discarded, world_of}
use Rattle.pn_storecore.specs.Seen.{Seen, Keeps}
use Rattle.pn_storecore.specs.Calls.{Answers, Does, IsRead, AreAddresses, AreNumbersOf}
use Rattle.pn_storecore.specs.Held.{HasShard, HasObject, Lacks, IsFree, IsSoundStore, IsAddressedStore}
use Rattle.pn_storecore.specs.Grew.{Did}

-- the discard is of what stands at this address
abbrev pub IsOf : Place → List ℕ → Discard → Type 0
IsOf Files at taken = taken ≡ what.File at
IsOf Listings at taken = taken ≡ what.Listing at

-- no listing that stands names the file
abbrev pub IsUnnamed : List ℕ → World → Type 0
IsUnnamed file w = (at bytes : List ℕ) → w.listings.bytes at ≡ Some bytes → Names bytes file → ⊥

-- The new journal is the old one with steps behind, all of them this installer's.
pub record OwnTo (me : ℕ) (old : Journal) (new : Option Journal) : Type 0 where
  pub steps : Journal
  pub mine : AllByRecursion (λ (e : Event). e.0 ≡ me) steps
  pub came : new ≡ Some (old ++ steps)

-- no step of another installer came between
abbrev pub IsUndisturbed : Seen → Seen → Type 0
IsUndisturbed old new = IfSome old.journal (λ j. OwnTo old.me j new.journal)

-- The new journal is the old one with steps behind.
pub record ExtendedTo (old : Journal) (new : Option Journal) : Type 0 where
  pub steps : Journal
  pub came : new ≡ Some (old ++ steps)

-- The installer's number is kept, and a told journal has further steps behind, lawful or not.
pub record Extended (old new : Seen) : Type 0 where
  pub kept : Keeps old new
  pub journal : IfSome old.journal (λ j. ExtendedTo j new.journal)

-- the store is this world, where it is told
abbrev pub IsWorld : Seen → World → Type 0
IsWorld s w = ForSome s.journal (λ j. world_of j ≡ w)

-- A discard takes away what it is of, and leaves the rest. Of a temporary folder or a listing it leaves a
-- sound store, and of a file where no listing that stands names it and no other installer is at work. What is
-- left has its address as digest, if it was so.
pub record DiscardLaw : Type 0 where
  pub temp : (old new : Seen) (k : ℕ) (result : Result (Unit {0}) DevFault) → Keeps old new → Does old (step.Discard (what.Temp k)) new result → OnOk result (IsFree new k)
  pub file : (old new : Seen) (at : List ℕ) (result : Result (Unit {0}) DevFault) → Keeps old new → Does old (step.Discard (what.File at)) new result → OnOk result (Lacks new Files at)
  pub listing : (old new : Seen) (at : List ℕ) (result : Result (Unit {0}) DevFault) → Keeps old new → Does old (step.Discard (what.Listing at)) new result → OnOk result (Lacks new Listings at)
  pub shard : (old new : Seen) (taken : Discard) (place : Place) (first : ℕ) → Did (step.Discard taken) old new → HasShard old place first → HasShard new place first
  pub object : (old new : Seen) (taken : Discard) (place : Place) (at : List ℕ) → Did (step.Discard taken) old new → (IsOf place at taken → ⊥) → HasObject old place at → HasObject new place at
  pub sound_temp : (old new : Seen) (k : ℕ) → Did (step.Discard (what.Temp k)) old new → IsSoundStore old → IsSoundStore new
  pub sound_listing : (old new : Seen) (at : List ℕ) → Did (step.Discard (what.Listing at)) old new → IsSoundStore old → IsSoundStore new
  pub sound_file : (old new : Seen) (at : List ℕ) → Did (step.Discard (what.File at)) old new → IsUndisturbed old new → ForSome old.journal (λ j. IsUnnamed at (world_of j)) → IsSoundStore old → IsSoundStore new
  pub addressed : (old new : Seen) (taken : Discard) → Did (step.Discard taken) old new → IsAddressedStore old → IsAddressedStore new

-- Beside no other installer each call's world is the one at its entry, and a discard changes that alone.
-- What is undisturbed as a whole is so in its parts.
pub record AloneLaw : Type 0 where
  pub none : (s : Seen) → Extended s s
  pub both : (a b c : Seen) → Extended a b → Extended b c → Extended a c
  pub call : (old new : Seen) (own : StoreStep) → Did own old new → Extended old new
  pub parts : (a b c : Seen) → Extended a b → Extended b c → IsUndisturbed a c → IsUndisturbed a b × IsUndisturbed b c
  pub changes : (old new : Seen) (taken : Discard) (w : World) (result : Result (Unit {0}) DevFault) → Keeps old new → Does old (step.Discard taken) new result → IsUndisturbed old new → IsWorld old w
      → OnOk result (IsWorld new (discarded taken w))
  pub refused : (old new : Seen) (taken : Discard) (w : World) → Did (step.Discard taken) old new → IsUndisturbed old new → IsWorld old w → IsWorld new w ⊎ IsWorld new (discarded taken w)
  pub same : (old new : Seen) (w : World) → Did step.Read old new → IsUndisturbed old new → IsWorld old w → IsWorld new w
  pub read : (old new : Seen) (place : Place) (at : List ℕ) (from : ℕ) (into : List ℕ) (result : Result (Option ℕ) DevFault) → Keeps old new → Answers old step.Read new result (λ w found. IsRead ((objects w place).bytes at) from into found)
      → IsUndisturbed old new → IfOk result (λ found. ForSome old.journal (λ j. IsRead ((objects (world_of j) place).bytes at) from into found))
  pub list : (old new : Seen) (place : Place) (result : Result (Vec (List ℕ) Global) DevFault) → Keeps old new → Answers old step.Read new result (λ w all. AreAddresses (objects w place) all.items)
      → IsUndisturbed old new → IfOk result (λ all. ForSome old.journal (λ j. AreAddresses (objects (world_of j) place) all.items))
  pub numbers : (old new : Seen) (result : Result (Vec ℕ Global) DevFault) → Keeps old new → Answers old step.Read new result (λ w all. AreNumbersOf w.temps all.items)
      → IsUndisturbed old new → IfOk result (λ all. ForSome old.journal (λ j. AreNumbersOf (world_of j).temps all.items))
