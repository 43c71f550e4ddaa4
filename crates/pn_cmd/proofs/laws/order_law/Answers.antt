use Rattle.pn_cmd.proofs.OrderLemmas.{order_law}
use Rattle.pn_cmd.proofs.laws.order_law.Goals as goal

pub returns : goal.returns
returns c = order_law
