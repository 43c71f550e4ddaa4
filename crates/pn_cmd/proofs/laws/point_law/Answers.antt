use Rattle.pn_cmd.proofs.CauseLemmas.{refused_at}
use Rattle.pn_cmd.proofs.laws.point_law.Goals as goal

pub returns : goal.returns
returns c = refused_at
