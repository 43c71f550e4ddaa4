use Rattle.std.proofs.Common.{◌≤◌, ◌-◌, length}
use Rattle.std.specs.Option.{ForSome}
use Rattle.pn_fs.specs.Seen.{Keeps, GaveAtMost}
use Rattle.pn_scan.proofs.IsFrontAtLemmas.{IsRead}
use Rattle.pn_scan.proofs.marker.is_front.Given as goal

abbrev pub invariant-pieces : goal.invariant-pieces
invariant-pieces g l = record {
  within : l.at ≤ length l.text;
  kept : Keeps (g.P.ReadFs.seen l.fn.fs) (g.P.ReadFs.seen l.fs);
  gave : ForSome (g.P.ReadFs.seen l.fn.fs).tree (λ t. GaveAtMost (g.P.ReadFs.seen l.fn.fs) l.at 0 (g.P.ReadFs.seen l.fs));
  so_far : ForSome (g.P.ReadFs.seen l.fn.fs).tree (λ t. IsRead (t l.path) l.text l.at);
}

abbrev pub decreases-pieces : goal.decreases-pieces
decreases-pieces g l = length l.text - l.at
