use Rattle.std.proofs.Common.{[], inr}
use Rattle.pn_text.proofs.Results.{on_err, any_err}
use Rattle.pn_repair.proofs.WroteAtLemmas.{wrote_both, half_empty}
use Rattle.pn_repair.proofs.text.write_text.Goals as goal

pub returns-in_err-create-clause-err : goal.returns-in_err-create-clause-err
returns-in_err-create-clause-err g c = any_err _ (half_empty c.args.path.now c.args.text.now _ _ c.in_err-create.ensures.err)

pub returns-clause-ok : goal.returns-clause-ok
returns-clause-ok g c = c.append.ensures.ok [] c.in_ok-create.ensures.ok

pub returns-clause-err : goal.returns-clause-err
returns-clause-err g c = on_err c.append.result (λ has t told u is. inr (has u is)) (c.append.ensures.err [] c.in_ok-create.ensures.ok)

pub returns-clause-wrote : goal.returns-clause-wrote
returns-clause-wrote g c =
    wrote_both c.args.path.now (g.P.ReadFs.seen c.args.fs.now) (g.P.ReadFs.seen c.create.new.fs) (g.P.ReadFs.seen c.append.new.fs) c.create.ensures.wrote c.append.ensures.wrote
