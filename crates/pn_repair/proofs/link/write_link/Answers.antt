use Rattle.pn_text.proofs.Results.{any_err}
use Rattle.pn_repair.proofs.WroteAtLemmas.{wrote_both, half_gone}
use Rattle.pn_repair.proofs.link.write_link.Goals as goal

pub returns-in_err-clear-clause-err : goal.returns-in_err-clear-clause-err
returns-in_err-clear-clause-err g c = any_err _ (half_gone c.args.path.now c.args.text.now _ _ c.in_err-clear.ensures.err)

pub returns-clause-wrote : goal.returns-clause-wrote
returns-clause-wrote g c =
    wrote_both c.args.path.now (g.P.ReadFs.seen c.args.fs.now) (g.P.ReadFs.seen c.clear.new.fs) (g.P.ReadFs.seen c.link.new.fs) c.clear.ensures.wrote c.link.ensures.wrote
