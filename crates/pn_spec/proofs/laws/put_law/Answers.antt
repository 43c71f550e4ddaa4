use Rattle.pn_spec.proofs.Puts.{put}
use Rattle.pn_spec.proofs.laws.put_law.Goals as goal

pub returns : goal.returns
returns c = put
