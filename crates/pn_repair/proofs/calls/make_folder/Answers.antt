use Rattle.std.proofs.Common.{Some}
use Rattle.pn_fs.specs.Tree.{folder}
use Rattle.pn_repair.proofs.AnswerLemmas.{answer_ok, answer_err}
use Rattle.pn_repair.proofs.WroteAtLemmas.{has_put, is_put, wrote_made}
use Rattle.pn_repair.proofs.calls.make_folder.Goals as goal

pub returns-clause-ok : goal.returns-clause-ok
returns-clause-ok g c = answer_ok c.make_folder.result c.of_tree.result c.of_tree.ensures (has_put c.args.path.now (Some folder) _ _) c.make_folder.ensures.made.ok

pub returns-clause-err : goal.returns-clause-err
returns-clause-err g c = answer_err c.make_folder.result c.of_tree.result c.of_tree.ensures (is_put c.args.path.now (Some folder) _ _) c.make_folder.ensures.made.err

pub returns-clause-wrote : goal.returns-clause-wrote
returns-clause-wrote g c =
    wrote_made c.make_folder.result c.args.path.now (Some folder) (g.P.ReadFs.seen c.args.fs.now) (g.P.ReadFs.seen c.make_folder.new.self) c.make_folder.ensures.made c.make_folder.ensures.touched c.make_folder.ensures.gave c.make_folder.ensures.cause
