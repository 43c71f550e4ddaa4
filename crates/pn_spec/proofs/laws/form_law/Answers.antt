use Rattle.pn_spec.proofs.LawProofs.{form}
use Rattle.pn_spec.proofs.laws.form_law.Goals as goal

pub returns : goal.returns
returns c = form
