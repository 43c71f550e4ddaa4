use Rattle.pn_glob.proofs.LawProofs.{star}
use Rattle.pn_glob.proofs.laws.star_law.Goals as goal

pub returns : goal.returns
returns c = star
