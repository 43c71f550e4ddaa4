use Rattle.pn_lock_layout.proofs.FindingLemmas.{held}
use Rattle.pn_lock_layout.proofs.laws.held_law.Goals as goal

pub returns : goal.returns
returns c = held
