use Rattle.pn_text.proofs.Results.{any_err}
use Rattle.pn_repair.proofs.WroteAtLemmas.{wrote_both, half_any}
use Rattle.pn_repair.proofs.stored.copy_stored.Goals as goal

pub returns-in_err-create-clause-err : goal.returns-in_err-create-clause-err
returns-in_err-create-clause-err g c = any_err _ (half_any c.args.path.now _ _ c.in_err-create.ensures.err)

pub returns-clause-wrote : goal.returns-clause-wrote
returns-clause-wrote g c =
    wrote_both c.args.path.now (g.P.ReadFs.seen c.args.fs.now) (g.P.ReadFs.seen c.create.new.fs) (g.P.ReadFs.seen c.fill.new.fs) c.create.ensures.wrote c.fill.ensures.wrote
