use Rattle.pn_glob.proofs.LawProofs.{negative}
use Rattle.pn_glob.proofs.laws.negative_law.Goals as goal

pub returns : goal.returns
returns c = negative
