use Rattle.pn_draft.proofs.Leaves.{drawing_entries}
use Rattle.pn_draft.proofs.laws.drawing_law.Goals as goal

pub returns : goal.returns
returns c = drawing_entries
