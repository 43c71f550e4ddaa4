use Rattle.pn_collect.proofs.Passed.{passed}
use Rattle.pn_collect.proofs.laws.passed_law.Goals as goal

pub returns : goal.returns
returns c = passed
