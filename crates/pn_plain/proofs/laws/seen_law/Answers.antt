use Rattle.pn_plain.proofs.SeenLemmas.{seen_law}
use Rattle.pn_plain.proofs.laws.seen_law.Goals as goal

pub returns : goal.returns
returns c = seen_law
