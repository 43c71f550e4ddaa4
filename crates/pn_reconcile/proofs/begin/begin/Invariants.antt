use Rattle.std.proofs.Common.{◌≡◌, ◌≤◌, take}
use Rattle.std.specs.Option.{ForSome}
use Rattle.pn_reconcile.specs.Plans.{KeepsAllRight, Made}
use Rattle.pn_reconcile.specs.Phases.{BeginsIn}
use Rattle.pn_reconcile.specs.Spares.{SparesRight}
use Rattle.pn_reconcile.specs.Bounds.{most_marked}
use Rattle.pn_reconcile.proofs.BoundsLemmas.{AreWithin}
use Rattle.pn_reconcile.proofs.BeginsLemmas.{Begins}
use Rattle.pn_reconcile.proofs.begin.begin.Given as goal

-- the first folders are begun
abbrev pub invariant-loop-one : goal.invariant-loop-one
invariant-loop-one g l =
    let tree = g.P.ReadFs.seen in
    let store = g.D.StoreDisk.seen in
    let done = take l.one-index l.managed in
    record {
      begun : Made (Begins l.managed done) (tree l.fn.fs).tree (tree l.fs).tree;
      spares : ForSome (tree l.fn.fs).tree (λ t. SparesRight (BeginsIn done t) l.plan t (tree l.fn.fs) (tree l.fs));
      keeps : KeepsAllRight l.plan (tree l.fn.fs).tree (tree l.fs).tree;
      later : (tree l.fn.fs).faults ≤ (tree l.fs).faults;
      gave : AreWithin l.plan (most_marked done) (tree l.fn.fs) (tree l.fs);
      unasked : store l.disk ≡ store l.fn.disk;
    }
