use Rattle.std.proofs.Common.{None}
use Rattle.pn_repair.proofs.AnswerLemmas.{answer_ok, answer_err}
use Rattle.pn_repair.proofs.WroteAtLemmas.{has_put, is_put, wrote_made}
use Rattle.pn_repair.proofs.calls.remove.Goals as goal

pub returns-clause-ok : goal.returns-clause-ok
returns-clause-ok g c = answer_ok c.remove.result c.of_tree.result c.of_tree.ensures (has_put c.args.path.now (None) _ _) c.remove.ensures.made.ok

pub returns-clause-err : goal.returns-clause-err
returns-clause-err g c = answer_err c.remove.result c.of_tree.result c.of_tree.ensures (is_put c.args.path.now (None) _ _) c.remove.ensures.made.err

pub returns-clause-wrote : goal.returns-clause-wrote
returns-clause-wrote g c =
    wrote_made c.remove.result c.args.path.now (None) (g.P.ReadFs.seen c.args.fs.now) (g.P.ReadFs.seen c.remove.new.self) c.remove.ensures.made c.remove.ensures.touched c.remove.ensures.gave c.remove.ensures.cause
