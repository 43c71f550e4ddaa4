use Rattle.pn_lockfile.proofs.AnswerLemmas.{answer}
use Rattle.pn_lockfile.proofs.laws.answer_law.Goals as goal

pub returns : goal.returns
returns c = answer c.read_law.ensures
