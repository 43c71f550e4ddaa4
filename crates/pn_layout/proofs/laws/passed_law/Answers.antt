use Rattle.pn_layout.proofs.CauseLemmas.{passed}
use Rattle.pn_layout.proofs.laws.passed_law.Goals as goal

pub returns : goal.returns
returns c = passed
