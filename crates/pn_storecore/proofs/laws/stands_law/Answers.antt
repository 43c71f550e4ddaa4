use Rattle.pn_storecore.proofs.StandsLemmas.{stands}
use Rattle.pn_storecore.proofs.laws.stands_law.Goals as goal

pub returns : goal.returns
returns c = stands
