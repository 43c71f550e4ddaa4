use Rattle.pn_storecore.proofs.OwnerLemmas.{owners}
use Rattle.pn_storecore.proofs.laws.owner_law.Goals as goal

pub returns : goal.returns
returns c = owners
