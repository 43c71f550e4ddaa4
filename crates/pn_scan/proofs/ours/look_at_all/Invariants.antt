use Rattle.std.proofs.Common.{take}
use Rattle.std.specs.Option.{ForSome}
use Rattle.pn_fs.specs.Seen.{Keeps, GaveAtMost}
use Rattle.pn_scan.specs.Looks.{marker_bytes}
use Rattle.pn_scan.proofs.AreLookedLemmas.{Looks}
use Rattle.pn_scan.proofs.ours.look_at_all.Given as goal

abbrev pub invariant-loop-one : goal.invariant-loop-one
invariant-loop-one g l = record {
  kept : Keeps (g.P.ReadFs.seen l.fn.fs) (g.P.ReadFs.seen l.fs);
  gave : ForSome (g.P.ReadFs.seen l.fn.fs).tree (λ t. GaveAtMost (g.P.ReadFs.seen l.fn.fs) (marker_bytes (take l.one-index l.managed)) 0 (g.P.ReadFs.seen l.fs));
  looks : ForSome (g.P.ReadFs.seen l.fn.fs).tree (λ t. Looks t (take l.one-index l.managed) l.marked.items l.standing.items);
}
