use Rattle.pn_glob.proofs.LawProofs.{literal}
use Rattle.pn_glob.proofs.laws.literal_law.Goals as goal

pub returns : goal.returns
returns c = literal
