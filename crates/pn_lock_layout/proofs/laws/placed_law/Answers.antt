use Rattle.pn_lock_layout.proofs.PlacedLemmas.{placed}
use Rattle.pn_lock_layout.proofs.laws.placed_law.Goals as goal

pub returns : goal.returns
returns c = placed
