use Rattle.pn_storecore.proofs.StandsLemmas.{leaves}
use Rattle.pn_storecore.proofs.laws.leaves_law.Goals as goal

pub returns : goal.returns
returns c = leaves
