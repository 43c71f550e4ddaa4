use Rattle.std.proofs.Common.{ℕ, List, [], ◌∷◌, sym, subst}
use Rattle.std.specs.List.Sorted.{IsStrictlySortedBy}
use Rattle.pn_lock.specs.Kept.{Rises}
use Rattle.pn_asked.specs.Rows.{Row, keys}
use Rattle.pn_locking.proofs.WantedLemmas.{no_ids_rise}
use Rattle.pn_locking.proofs.tests.asks.Goals as goal

one_rises : (x : List ℕ) → Rises (x ∷ [])
unfolding IsStrictlySortedBy
one_rises x = (tt, tt)

pub asked-requires-clause-overrides : goal.asked-requires-clause-overrides
asked-requires-clause-overrides c = subst (λ (rows : List Row). Rises (keys rows)) (sym c.new-overrides.ensures) no_ids_rise

pub asked-requires-clause-folders : goal.asked-requires-clause-folders
asked-requires-clause-folders c = one_rises c.in_ok-folder.folder
