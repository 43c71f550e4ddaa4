use Rattle.pn_text.proofs.NameTexts.{name_law}
use Rattle.pn_text.proofs.name.name_law.Goals as goal

pub returns : goal.returns
returns c = name_law
