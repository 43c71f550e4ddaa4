use Rattle.std.proofs.Common.{sym, subst}
use Rattle.pn_cmd.specs.World.{world}
use Rattle.pn_cmd.specs.Points.{Refuses}
use Rattle.pn_cmd.specs.Endings.{Stops}
use Rattle.pn_cmd.proofs.EndingLemmas.{stops_for}
use Rattle.pn_cmd.proofs.write.write.Goals as goal

pub returns-in-Err-clause-cause : goal.returns-in-Err-clause-cause
returns-in-Err-clause-cause g c registry out =
    let p = g.P.ReadFs.seen in
    let d = g.D.StoreDisk.seen in
    subst (Refuses (Stops c.args.plan.now) (world (p c.args.project.now) registry (d c.args.store.now) out) (world (p c.reconcile.new.fs) registry (d c.reconcile.new.disk) out)) (sym c.unwritten.ensures)
    (stops_for c.in-Err.fault c.args.plan.now (p c.args.project.now) (p c.reconcile.new.fs) registry (d c.args.store.now) (d c.reconcile.new.disk) out c.in-Err.ensures.fault c.in-Err.ensures.of_plan c.in-Err.ensures.needed)
