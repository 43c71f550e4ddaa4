use Rattle.pn_repair.proofs.AnswerLemmas.{answer_ok, answer_err}
use Rattle.pn_repair.proofs.WroteAtLemmas.{has_grown, half_grown, wrote_grown}
use Rattle.pn_repair.proofs.calls.append.Goals as goal

pub returns-clause-ok : goal.returns-clause-ok
returns-clause-ok g c bytes has = answer_ok c.append.result c.of_tree.result c.of_tree.ensures (has_grown c.args.path.now bytes c.args.more.now _ _ has) c.append.ensures.grown.ok

pub returns-clause-err : goal.returns-clause-err
returns-clause-err g c bytes has = answer_err c.append.result c.of_tree.result c.of_tree.ensures (half_grown c.args.path.now bytes c.args.more.now _ _ has) c.append.ensures.grown.err

pub returns-clause-wrote : goal.returns-clause-wrote
returns-clause-wrote g c =
    wrote_grown c.append.result c.args.path.now c.args.more.now (g.P.ReadFs.seen c.args.fs.now) (g.P.ReadFs.seen c.append.new.self) c.append.ensures.grown c.append.ensures.touched c.append.ensures.gave c.append.ensures.cause
