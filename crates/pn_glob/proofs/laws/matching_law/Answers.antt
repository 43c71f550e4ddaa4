use Rattle.pn_glob.proofs.LawProofs.{matching}
use Rattle.pn_glob.proofs.laws.matching_law.Goals as goal

pub returns : goal.returns
returns c = matching
