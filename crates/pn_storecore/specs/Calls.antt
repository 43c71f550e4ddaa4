-- What the calls on a store make of its journal, where that is told, and what they answer.
use Rattle.std.specs.Prelude.{◌≡◌, ◌≢◌, ◌⊎◌, ℕ, ◌≤◌, Bool, true, false, List, [], ◌∷◌, ◌++◌, length, take, Option, Some, None, Result, IfOk, OnErr, IfSome}
use Rattle.std.specs.List.{Contains}
use Rattle.std.specs.List.Sorted.{IsStrictlySortedBy}
use Rattle.std.specs.Cmp.Lexicographic.{slice_cmp}
use Rattle.std.specs.Ordering.{nat_cmp}
use Rattle.pn_text.specs.declared.fault.DevFault.{DevFault}
use Rattle.pn_text.specs.Pieces.{IsPieceOf}
use Rattle.pn_storecore.specs.declared.step.StoreStep.{StoreStep}
use Rattle.pn_storecore.specs.declared.step.StoreStep.TheVariants.{Append}
use Rattle.pn_storecore.specs.World.{Temp, Objects, World, Stands}
use Rattle.pn_storecore.specs.Steps.{Journal, world_after, world_of}
use Rattle.pn_storecore.specs.Lawful.{AreLawful, AreOthers}
use Rattle.pn_storecore.specs.Seen.{Seen}

-- The journal grows by lawful steps of other installers, and then by the call's own step. The answer
-- is by the world before its own step. After a refusal its own step was made or not; what may have
-- been made is told by `Made`.
pub record Grows {T : Type 0} (me : ℕ) (old : Journal) (step : StoreStep) (Made : StoreStep → Type 0) (Answer : World → T → Type 0) (new : Option Journal) (result : Result T DevFault) : Type 0 where
  pub others : Journal
  pub lawful : AreLawful (world_of old) others
  pub theirs : AreOthers me others
  pub ok : IfOk result (λ answer. (new ≡ Some (old ++ others ++ (me, step) ∷ [])) × Answer (world_after (world_of old) others) answer)
  pub err : OnErr result ((new ≡ Some (old ++ others)) ⊎ ((made : StoreStep) × Made made × (new ≡ Some (old ++ others ++ (me, made) ∷ []))))

-- a call with an answer
abbrev pub Answers : {T : Type 0} → Seen → StoreStep → Seen → Result T DevFault → (World → T → Type 0) → Type 0
Answers old step new result Answer = IfSome old.journal (λ j. Grows old.me j step (λ made. made ≡ step) Answer new.journal result)

-- a call without one
abbrev pub Does : {T : Type 0} → Seen → StoreStep → Seen → Result T DevFault → Type 0
Does old step new result = Answers old step new result (λ w answer. Unit {0})

-- bytes were added to a temporary file, or a front of them
abbrev pub IsFront : ℕ → ℕ → List ℕ → StoreStep → Type 0
IsFront k n bytes step = (i : ℕ) × (i ≤ length bytes) × (step ≡ Append k n (take i bytes))

-- a call that adds bytes; after a refusal a front of them may have been added
abbrev pub Appends : {T : Type 0} → Seen → ℕ → ℕ → List ℕ → Seen → Result T DevFault → Type 0
Appends old k n bytes new result = IfSome old.journal (λ j. Grows old.me j (Append k n bytes) (IsFront k n bytes) (λ w answer. Unit {0}) new.journal result)

-- whether the number was free
abbrev pub IsClaim : ℕ → World → Bool → Type 0
IsClaim k w true = w.temps k ≡ None
IsClaim k w false = w.temps k ≢ None

-- none exactly where nothing stands at the address
abbrev pub IsRead : Option (List ℕ) → ℕ → List ℕ → Option ℕ → Type 0
IsRead None from into None = Unit {0}
IsRead None from into (Some n) = ⊥
IsRead (Some bytes) from into None = ⊥
IsRead (Some bytes) from into (Some n) = IsPieceOf bytes from into n

-- The addresses at which something stands, each once, in byte order.
pub record AreAddresses (o : Objects) (all : List (List ℕ)) : Type 0 where
  pub rising : IsStrictlySortedBy (slice_cmp nat_cmp) all
  pub stand : (at : List ℕ) → Contains all at → Stands o at
  pub every : (at : List ℕ) → Stands o at → Contains all at

-- The numbers whose folder stands, rising.
pub record AreNumbersOf (temps : ℕ → Option Temp) (all : List ℕ) : Type 0 where
  pub rising : IsStrictlySortedBy nat_cmp all
  pub stand : (k : ℕ) → Contains all k → temps k ≢ None
  pub every : (k : ℕ) → temps k ≢ None → Contains all k
