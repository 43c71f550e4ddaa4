use Rattle.pn_store.proofs.FoundLemmas.{found}
use Rattle.pn_store.proofs.laws.found_law.Goals as goal

pub returns : goal.returns
returns c = found
