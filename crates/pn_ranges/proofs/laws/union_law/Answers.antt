use Rattle.pn_ranges.proofs.LawProofs.{union}
use Rattle.pn_ranges.proofs.laws.union_law.Goals as goal

pub returns : goal.returns
returns c = union
