-- What calls do to a told journal, whatever they answer.
use Rattle.std.specs.Prelude.{◌≡◌, ◌≢◌, ◌⊎◌, ℕ, List, [], ◌∷◌, ◌++◌, Option, Some, None, IfSome}
use Rattle.pn_storecore.specs.declared.step.Place.{Place}
use Rattle.pn_storecore.specs.declared.step.StoreStep.{StoreStep}
use Rattle.pn_storecore.specs.declared.step.StoreStep.TheVariants.{Claim, Append}
use Rattle.pn_storecore.specs.World.{World, objects}
use Rattle.pn_storecore.specs.Steps.{Event, Journal, after, world_of}
use Rattle.pn_storecore.specs.Lawful.{AreLawful, AreOthers}
use Rattle.pn_storecore.specs.Seen.{Seen, Keeps}
use Rattle.pn_storecore.specs.Calls.{IsFront, IsRead}

-- what may have been made of a call's step: the step, or of an append a front of its bytes
abbrev pub IsPart : StoreStep → StoreStep → Type 0
IsPart (Append k n bytes) made = IsFront k n bytes made
IsPart step made = made ≡ step

-- Lawful steps of other installers came, and then the call's own step, a part of it, or none.
pub record DidTo (me : ℕ) (own : StoreStep) (old : Journal) (new : Option Journal) : Type 0 where
  pub others : Journal
  pub lawful : AreLawful (world_of old) others
  pub theirs : AreOthers me others
  pub came : (new ≡ Some (old ++ others)) ⊎ ((made : StoreStep) × IsPart own made × (new ≡ Some (old ++ others ++ (me, made) ∷ [])))

-- What a call with this step did, whatever it answered.
pub record Did (own : StoreStep) (old new : Seen) : Type 0 where
  pub kept : Keeps old new
  pub journal : IfSome old.journal (λ j. DidTo old.me own j new.journal)

-- The new journal is the old one with steps behind, each lawful at its place.
pub record GrewTo (old : Journal) (new : Option Journal) : Type 0 where
  pub steps : Journal
  pub lawful : AreLawful (world_of old) steps
  pub came : new ≡ Some (old ++ steps)

-- The installer's number is kept, and a told journal grew by lawful steps.
pub record Grew (old new : Seen) : Type 0 where
  pub kept : Keeps old new
  pub journal : IfSome old.journal (λ j. GrewTo j new.journal)

-- an installer's claim of a number
abbrev pub claiming : ℕ → ℕ → Event
claiming who k = (who, Claim k)

-- Between the two journals the number's folder stood.
pub record StoodTo (k : ℕ) (old : Journal) (new : Option Journal) : Type 0 where
  pub front : Journal
  pub back : Journal
  pub came : new ≡ Some (old ++ front ++ back)
  pub stood : (world_of (old ++ front)).temps k ≢ None

-- at a step between, the number's folder stood
abbrev pub Stood : ℕ → Seen → Seen → Type 0
Stood k old new = IfSome old.journal (λ j. StoodTo k j new.journal)

-- Between the two journals a claim of the installer's made the number's folder.
pub record TookTo (me k : ℕ) (old : Journal) (new : Option Journal) : Type 0 where
  pub front : Journal
  pub back : Journal
  pub came : new ≡ Some (old ++ front ++ claiming me k ∷ back)
  pub free : (world_of (old ++ front)).temps k ≡ None

-- a step between made the number's folder for the installer
abbrev pub Took : ℕ → Seen → Seen → Type 0
Took k old new = IfSome old.journal (λ j. TookTo old.me k j new.journal)

-- none of the steps makes the number's folder for this installer
abbrev pub AreNoClaims : ℕ → ℕ → World → Journal → Type 0
AreNoClaims me k w [] = Unit {0}
AreNoClaims me k w (e ∷ es) = (e ≡ claiming me k → w.temps k ≢ None) × AreNoClaims me k (after e.0 e.1 w) es

-- The new journal is the old one with such steps behind.
pub record TookNoneTo (me k : ℕ) (old : Journal) (new : Option Journal) : Type 0 where
  pub steps : Journal
  pub none : AreNoClaims me k (world_of old) steps
  pub came : new ≡ Some (old ++ steps)

-- The installer's number is kept, and no step between made the number's folder for it.
pub record TookNone (k : ℕ) (old new : Seen) : Type 0 where
  pub kept : Keeps old new
  pub journal : IfSome old.journal (λ j. TookNoneTo old.me k j new.journal)

-- Between the two journals exactly this stood at the address, or nothing.
pub record WasTo (place : Place) (at : List ℕ) (bytes : Option (List ℕ)) (old : Journal) (new : Option Journal) : Type 0 where
  pub front : Journal
  pub back : Journal
  pub came : new ≡ Some (old ++ front ++ back)
  pub was : (objects (world_of (old ++ front)) place).bytes at ≡ bytes

-- at a step between, exactly these bytes stood at the address, or none
abbrev pub Was : Place → List ℕ → Option (List ℕ) → Seen → Seen → Type 0
Was place at bytes old new = IfSome old.journal (λ j. WasTo place at bytes j new.journal)

-- What a read found is by the bytes that stood at the address at a step between.
pub record ReadTo (place : Place) (at : List ℕ) (from : ℕ) (into : List ℕ) (found : Option ℕ) (old : Journal) (new : Option Journal) : Type 0 where
  pub bytes : Option (List ℕ)
  pub was : WasTo place at bytes old new
  pub answer : IsRead bytes from into found
