use Rattle.pn_text.proofs.Paths.{keeps_rel, reads_rel}
use Rattle.pn_text.proofs.rel_path.RelPath.of_parts.Goals as goal

pub invariant_of-result : goal.invariant_of-result
invariant_of-result c = rw c.in-Ok.ensures.ok (keeps_rel _ c.requires.good.0 c.requires.good.1 c.requires.short)

pub returns-in-Ok : goal.returns-in-Ok
returns-in-Ok c = rw c.in-Ok.ensures.ok (reads_rel _ c.requires.good.0 c.requires.good.1)
