use Rattle.pn_text.proofs.IdTexts.{id_law}
use Rattle.pn_text.proofs.ids.id_law.Goals as goal

pub returns : goal.returns
returns c = id_law
