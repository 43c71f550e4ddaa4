use Rattle.std.proofs.Common.{refl}
use Rattle.pn_text.proofs.Paths.{spells_one}
use Rattle.pn_lock_layout.specs.Places.{default_store}
use Rattle.pn_lock_layout.specs.Rows.{w}
use Rattle.pn_lock_layout.proofs.RowLemmas.{default_placed, placed_as}
use Rattle.pn_lock_layout.proofs.tests.snapshots_stand_in_the_default_virtual_store.Goals as goal

pub planned-requires : goal.planned-requires
planned-requires g c = placed_as c.in_ok-store.store (default_store w) (spells_one _ c.in_ok-store.store (default_store w) c.in_ok-store.ensures.ok (record { good = refl; spelled = refl })) default_placed
