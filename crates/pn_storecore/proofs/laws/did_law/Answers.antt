use Rattle.pn_storecore.proofs.DidLemmas.{did}
use Rattle.pn_storecore.proofs.laws.did_law.Goals as goal

pub returns : goal.returns
returns c = did
