use Rattle.pn_ranges.proofs.LawProofs.{caret}
use Rattle.pn_ranges.proofs.laws.caret_law.Goals as goal

pub returns : goal.returns
returns c = caret
