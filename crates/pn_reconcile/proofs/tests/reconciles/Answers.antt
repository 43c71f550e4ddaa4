use Rattle.std.proofs.Common.{sym, subst, ◌∙◌}
use Rattle.pn_text.proofs.Results.{for_some}
use Rattle.pn_scan.specs.Managed.{AreOurs}
use Rattle.pn_reconcile.proofs.tests.reconciles.Goals as goal

pub reconcile-requires-clause-ours : goal.reconcile-requires-clause-ours
reconcile-requires-clause-ours g c t told =
    subst (AreOurs t) (sym c.in-Ok.ensures.managed) (for_some (λ t. AreOurs t c.as_slice.result.now) (g.P.ReadFs.seen c.args.tree.now).tree c.in-Ok.ensures.ours t (sym c.in-Ok.ensures.kept.tree ∙ told))
