use Rattle.std.proofs.Common.{rules, Some}
use Rattle.pn_fs.proofs.NodeLemmas.{changed_by}
use Rattle.pn_fs.proofs.nodes.set_body.Goals as goal

pub returns : goal.returns
returns c = changed_by c.args.nodes.now (c.get_mut.follows.lender c.args.body) c.as_str.result.now c.args.path.now (Some c.args.body)
    c.as_str.ensures.text c.requires.some ((c.get_mut.follows.holds c.args.body).3 (search rules))
