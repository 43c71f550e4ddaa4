-- What a store in memory does by itself: steps of other installers come before its calls, and some calls fail.
use Rattle.std.specs.Prelude.{◌≡◌, ◌≢◌, ◌⊎◌, ℕ, ◌<◌, ◌≤◌, Bool, true, false, List, [], ◌∷◌, ◌++◌, Result, Ok, Err}
use Rattle.std.specs.List.{AllByRecursion}
use Rattle.pn_text.specs.Causes.{count_after}
use Rattle.pn_text.specs.declared.fault.DevFault.{DevFault}
use Rattle.pn_text.specs.declared.fault.DevFault.TheVariants.{Failed, Memory}
use Rattle.pn_storecore.specs.declared.step.StoreStep.{StoreStep}
use Rattle.pn_storecore.specs.World.{World}
use Rattle.pn_storecore.specs.Steps.{Journal, after, world_of}
use Rattle.pn_storecore.specs.Lawful.{IsLawful}

-- the number of a call, an installer, and its step, which comes before that call
abbrev pub Scheduled : Type 0
Scheduled = ℕ × ℕ × StoreStep

-- The steps of others that are still to come, in their order, which calls fail, the number of the next call, and
-- how many calls failed.
pub record Script : Type 0 where
  pub others : List Scheduled
  pub fails : ℕ → Bool
  pub next : ℕ
  pub faults : ℕ

-- The step is another installer's, and it is lawful where its turn comes.
pub record IsDue (me : ℕ) (w : World) (e : Scheduled) : Type 0 where
  pub theirs : e.1 ≢ me
  pub lawful : IsLawful e.1 e.2 w

-- the steps that come of entries which have their turn one after the other: each that is due there, and no others
abbrev pub AreDue : ℕ → World → List Scheduled → Journal → Type 0
AreDue me w [] came = came ≡ []
AreDue me w (e ∷ es) came =
    (IsDue me w e × ((rest : Journal) × (came ≡ (e.1, e.2) ∷ rest) × AreDue me (after e.1 e.2 w) es rest))
    ⊎ ((IsDue me w e → ⊥) × AreDue me w es came)

-- The first entries had their turn before a call, none of them for a later one, and the others are still to come.
-- Their steps that are due came, and then these.
pub record DueCame (me call : ℕ) (schedule later : List Scheduled) (old own new : Journal) : Type 0 where
  pub turned : List Scheduled
  pub came : Journal
  pub first : schedule ≡ turned ++ later
  pub reached : AllByRecursion (λ (e : Scheduled). e.0 ≤ call) turned
  pub due : AreDue me (world_of old) turned came
  pub grew : new ≡ old ++ came ++ own

-- no entry is left, or the next one is for a later call
abbrev pub IsLater : ℕ → List Scheduled → Type 0
IsLater call [] = Unit {0}
IsLater call (e ∷ es) = call < e.0

-- A call that doesn't fail comes after all the entries that have their turn before it, and makes its own steps. One
-- that fails comes after them too, makes none, and counts as a fault. Where memory was wanted, some of those entries
-- had their turn, and no own step was made.
abbrev pub Ran : {T : Type 0} → ℕ → Script → Journal → Journal → Journal → Script → Result T DevFault → Type 0
Ran me plan old own new now (Ok v) = (plan.fails plan.next ≡ false) × DueCame me plan.next plan.others now.others old own new × IsLater plan.next now.others × (now.faults ≡ plan.faults)
Ran me plan old own new now (Err Failed) = (plan.fails plan.next ≡ true) × DueCame me plan.next plan.others now.others old [] new × IsLater plan.next now.others × (now.faults ≡ count_after plan.faults)
Ran me plan old own new now (Err Memory) = DueCame me plan.next plan.others now.others old [] new × (now.faults ≡ plan.faults)

-- A call went by the script, and was counted, whatever it answered.
pub record Goes {T : Type 0} (me : ℕ) (plan : Script) (old own new : Journal) (now : Script) (result : Result T DevFault) : Type 0 where
  pub ran : Ran me plan old own new now result
  pub next : now.next ≡ count_after plan.next
  pub fails : now.fails ≡ plan.fails
