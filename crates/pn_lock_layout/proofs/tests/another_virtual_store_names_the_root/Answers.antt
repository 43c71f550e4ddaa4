use Rattle.std.proofs.Common.{[], ◌∷◌, refl}
use Rattle.std.specs.Prelude.{codes}
use Rattle.pn_text.proofs.Paths.{spells_one}
use Rattle.pn_lock_layout.proofs.RowLemmas.{other_placed, placed_as}
use Rattle.pn_lock_layout.proofs.tests.another_virtual_store_names_the_root.Goals as goal

pub planned-requires : goal.planned-requires
planned-requires g c = placed_as c.in_ok-store.store (codes "v" ∷ []) (spells_one _ c.in_ok-store.store (codes "v" ∷ []) c.in_ok-store.ensures.ok (record { good = refl; spelled = refl })) other_placed
