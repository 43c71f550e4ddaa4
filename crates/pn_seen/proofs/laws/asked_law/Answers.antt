use Rattle.pn_seen.proofs.AskedLemmas.{asked_law}
use Rattle.pn_seen.proofs.laws.asked_law.Goals as goal

pub returns : goal.returns
returns c = asked_law
