use Rattle.std.proofs.Common.{sym, ◌∙◌}
use Rattle.pn_clear.proofs.WithoutLemmas.{touched_one}
use Rattle.pn_clear.proofs.clearing.clear_one.Goals as goal

pub returns-then-is_doomed-clause-touched : goal.returns-then-is_doomed-clause-touched
returns-then-is_doomed-clause-touched g c =
    touched_one c.args.plan.now c.args.entry.now (g.P.ReadFs.seen c.args.fs.now) (g.P.ReadFs.seen c.remove.new.fs) (sym c.is_doomed.ensures ∙ c.if-is_doomed.true) c.remove.ensures.touched
