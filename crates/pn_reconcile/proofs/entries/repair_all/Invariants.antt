use Rattle.std.proofs.Common.{◌≡◌, ◌≤◌, take}
use Rattle.std.specs.Option.{ForSome}
use Rattle.pn_fs.specs.Seen.{GaveAtMost}
use Rattle.pn_repair.specs.Writes.{ReadsStore}
use Rattle.pn_reconcile.specs.Plans.{IsPlanned, KeepsAllRight, Made}
use Rattle.pn_reconcile.specs.Phases.{IsFilled}
use Rattle.pn_reconcile.specs.Spares.{SparesRight}
use Rattle.pn_reconcile.specs.Needs.{NeedsNoFiles}
use Rattle.pn_reconcile.specs.Bounds.{most_planned}
use Rattle.pn_reconcile.proofs.entries.repair_all.Given as goal

-- the first entries stand
abbrev pub invariant-loop-entry : goal.invariant-loop-entry
invariant-loop-entry g l =
    let tree = g.P.ReadFs.seen in
    let store = g.D.StoreDisk.seen in
    record {
      filled : Made (IsFilled (take l.entry-index l.plan)) (tree l.fn.fs).tree (tree l.fs).tree;
      spares : ForSome (tree l.fn.fs).tree (λ t. SparesRight (IsPlanned l.plan) l.plan t (tree l.fn.fs) (tree l.fs));
      keeps : KeepsAllRight l.plan (tree l.fn.fs).tree (tree l.fs).tree;
      later : (tree l.fn.fs).faults ≤ (tree l.fs).faults;
      reads : ReadsStore (store l.fn.disk) (store l.disk);
      gave : ForSome (tree l.fn.fs).tree (λ t. GaveAtMost (tree l.fn.fs) (most_planned (take l.entry-index l.plan) t) 0 (tree l.fs));
      asks : NeedsNoFiles l.plan (tree l.fn.fs).tree → store l.disk ≡ store l.fn.disk;
    }
