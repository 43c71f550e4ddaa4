-- What the stores in memory show.
use Rattle.std.specs.Prelude.{◌≡◌, ℕ, [], ◌∷◌, ◌++◌, Some, Result, MatchResult}
use Rattle.pn_text.specs.Causes.{is_listed}
use Rattle.pn_text.specs.declared.fault.DevFault.{DevFault}
use Rattle.pn_text.specs.declared.fault.DevFault.TheVariants.{Memory}
use Rattle.pn_storecore.specs.declared.step.StoreStep.{StoreStep}
use Rattle.pn_memstore.specs.declared.sure.SureStore.{SureStore}
use Rattle.pn_memstore.specs.declared.mem.MemStore.{MemStore}
use Rattle.pn_memstore.specs.declared.found.FoundStore.{FoundStore}
use Rattle.pn_storecore.specs.Steps.{Journal}
use Rattle.pn_storecore.specs.Seen.{Seen}
use Rattle.pn_memstore.specs.Script.{Script, Goes}
use Rattle.pn_memstore.specs.Schedule.{to_come}

-- the steps on a store
abbrev pub sure_journal : SureStore → Journal
sure_journal s = s.ledger.journal.items

abbrev pub sure_seen : SureStore → Seen
sure_seen s = record { journal = Some (sure_journal s); me = s.me; faults = 0 }

abbrev pub mem_journal : MemStore → Journal
mem_journal s = sure_journal s.store

abbrev pub mem_seen : MemStore → Seen
mem_seen s = record { journal = Some (mem_journal s); me = s.store.me; faults = s.turns.faults }

abbrev pub found_journal : FoundStore → Journal
found_journal s = s.journal.items

abbrev pub found_seen : FoundStore → Seen
found_seen s = record { journal = Some (found_journal s); me = s.me; faults = 0 }

abbrev pub script_of : MemStore → Script
script_of s = record { others = to_come s.schedule; fails = is_listed s.turns.fail.items; next = s.turns.calls; faults = s.turns.faults }

-- a call's own step alone came, no step of another installer; where memory was wanted it was not made
abbrev pub CameAlone : {T : Type 0} → ℕ → Journal → StoreStep → Journal → Result T DevFault → Type 0
CameAlone me old step new result = MatchResult result (λ v. new ≡ old ++ (me, step) ∷ []) (λ e. (e ≡ Memory) × (new ≡ old))

abbrev pub Alone : {T : Type 0} → SureStore → StoreStep → SureStore → Result T DevFault → Type 0
Alone old step new result = CameAlone old.me (sure_journal old) step (sure_journal new) result

abbrev pub FoundAlone : {T : Type 0} → FoundStore → StoreStep → FoundStore → Result T DevFault → Type 0
FoundAlone old step new result = CameAlone old.me (found_journal old) step (found_journal new) result

-- a call of a store in memory went by its script, and its own step is this one
abbrev pub GoesBy : {T : Type 0} → MemStore → StoreStep → MemStore → Result T DevFault → Type 0
GoesBy old step new result = Goes old.store.me (script_of old) (mem_journal old) ((old.store.me, step) ∷ []) (mem_journal new) (script_of new) result
