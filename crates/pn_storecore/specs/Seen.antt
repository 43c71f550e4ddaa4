-- What the outside shows of a store.
use Rattle.std.specs.Prelude.{◌≡◌, ℕ, [], Option, Some, None}
use Rattle.std.specs.Option.{ForSome}
use Rattle.pn_storecore.specs.declared.step.StoreStep.{StoreStep}
use Rattle.pn_storecore.specs.Steps.{Journal, world_of}
use Rattle.pn_storecore.specs.Lawful.{IsLawful}

-- The journal, where it is told; the number of the installer that makes the calls; how often a call failed.
pub record Seen : Type 0 where
  pub journal : Option Journal
  pub me : ℕ
  pub faults : ℕ

-- What no call changes: the installer's number, and that no journal is told.
pub record Keeps (old new : Seen) : Type 0 where
  pub me : new.me ≡ old.me
  pub untold : old.journal ≡ None → new.journal ≡ None

-- what a call asks: where the journal is told, its step is lawful in the world that it made
abbrev pub Asks : Seen → StoreStep → Type 0
Asks s step = ForSome s.journal (λ j. IsLawful s.me step (world_of j))

-- the store before the first call
abbrev pub fresh : ℕ → Seen
fresh me = record { journal = Some []; me = me; faults = 0 }
