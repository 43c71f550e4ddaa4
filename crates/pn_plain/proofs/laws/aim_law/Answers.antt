use Rattle.pn_plain.proofs.ChosenLemmas.{aim_law}
use Rattle.pn_plain.proofs.laws.aim_law.Goals as goal

pub returns : goal.returns
returns c = aim_law c.choice_law.ensures
