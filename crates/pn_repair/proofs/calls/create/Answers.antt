use Rattle.std.proofs.Common.{Some, []}
use Rattle.pn_fs.specs.Tree.{file}
use Rattle.pn_repair.proofs.AnswerLemmas.{answer_ok, answer_err}
use Rattle.pn_repair.proofs.WroteAtLemmas.{has_put, is_put, wrote_made}
use Rattle.pn_repair.proofs.calls.create.Goals as goal

pub returns-clause-ok : goal.returns-clause-ok
returns-clause-ok g c = answer_ok c.create.result c.of_tree.result c.of_tree.ensures (has_put c.args.path.now (Some (file [])) _ _) c.create.ensures.made.ok

pub returns-clause-err : goal.returns-clause-err
returns-clause-err g c = answer_err c.create.result c.of_tree.result c.of_tree.ensures (is_put c.args.path.now (Some (file [])) _ _) c.create.ensures.made.err

pub returns-clause-wrote : goal.returns-clause-wrote
returns-clause-wrote g c =
    wrote_made c.create.result c.args.path.now (Some (file [])) (g.P.ReadFs.seen c.args.fs.now) (g.P.ReadFs.seen c.create.new.self) c.create.ensures.made c.create.ensures.touched c.create.ensures.gave c.create.ensures.cause
