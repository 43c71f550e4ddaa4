use Rattle.pn_plain.proofs.PlainLemmas.{plain_law}
use Rattle.pn_plain.proofs.laws.plain_law.Goals as goal

pub returns : goal.returns
returns c = plain_law
