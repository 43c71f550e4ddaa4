use Rattle.pn_text.proofs.Relatives.{relative_law}
use Rattle.pn_text.proofs.relative.relative_law.Goals as goal

pub returns : goal.returns
returns c = relative_law
