use Rattle.pn_cmd.proofs.FoundLemmas.{lookup_law}
use Rattle.pn_cmd.proofs.laws.lookup_law.Goals as goal

pub returns : goal.returns
returns c = lookup_law
