use Rattle.pn_storecore.proofs.HoldsLemmas.{holds}
use Rattle.pn_storecore.proofs.laws.holds_law.Goals as goal

pub returns : goal.returns
returns c = holds
