use Rattle.pn_storecore.proofs.OwnerLemmas.{place}
use Rattle.pn_storecore.proofs.laws.place_law.Goals as goal

pub returns : goal.returns
returns c = place
