use Rattle.std.proofs.Common.{None}
use Rattle.pn_fs.proofs.NodeLemmas.{changed_by}
use Rattle.pn_fs.proofs.nodes.take_body.Goals as goal

pub returns-clause-gone : goal.returns-clause-gone
returns-clause-gone c = changed_by c.args.nodes.now c.remove.new.self c.as_str.result.now c.args.path.now None c.as_str.ensures.text c.requires c.remove.ensures.updates
