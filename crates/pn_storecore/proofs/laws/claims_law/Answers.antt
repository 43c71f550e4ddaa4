use Rattle.pn_storecore.proofs.TookLemmas.{claims}
use Rattle.pn_storecore.proofs.laws.claims_law.Goals as goal

pub returns : goal.returns
returns c = claims
