use Rattle.std.proofs.Common.{Some}
use Rattle.pn_fs.specs.Tree.{link}
use Rattle.pn_repair.proofs.AnswerLemmas.{answer_ok, answer_err}
use Rattle.pn_repair.proofs.WroteAtLemmas.{has_put, link_put, wrote_made}
use Rattle.pn_repair.proofs.calls.link.Goals as goal

pub returns-clause-ok : goal.returns-clause-ok
returns-clause-ok g c = answer_ok c.link.result c.of_tree.result c.of_tree.ensures (has_put c.args.path.now (Some (link c.args.text.now)) _ _) c.link.ensures.made.ok

pub returns-clause-err : goal.returns-clause-err
returns-clause-err g c = answer_err c.link.result c.of_tree.result c.of_tree.ensures (link_put c.args.path.now c.args.text.now _ _ c.requires) c.link.ensures.made.err

pub returns-clause-wrote : goal.returns-clause-wrote
returns-clause-wrote g c =
    wrote_made c.link.result c.args.path.now (Some (link c.args.text.now)) (g.P.ReadFs.seen c.args.fs.now) (g.P.ReadFs.seen c.link.new.self) c.link.ensures.made c.link.ensures.touched c.link.ensures.gave c.link.ensures.cause
