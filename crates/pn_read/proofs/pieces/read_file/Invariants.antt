use Rattle.std.proofs.Common.{◌≡◌, ◌≤◌, ◌-◌, ◌+◌, vec_len, length}
use Rattle.std.specs.Option.{ForSome}
use Rattle.pn_fs.specs.Seen.{Keeps, GaveAtMost}
use Rattle.pn_read.proofs.FrontLemmas.{IsFront}
use Rattle.pn_read.proofs.pieces.read_file.Given as goal

abbrev pub invariant-loop-count : goal.invariant-loop-count
invariant-loop-count g l = record {
  short : vec_len l.all ≤ l.limit;
  size : length l.all.items ≡ vec_len l.all;
  kept : Keeps (g.P.ReadFs.seen l.fn.fs) (g.P.ReadFs.seen l.fs);
  gave : ForSome (g.P.ReadFs.seen l.fn.fs).tree (λ t. GaveAtMost (g.P.ReadFs.seen l.fn.fs) (length l.all.items) 0 (g.P.ReadFs.seen l.fs));
  so_far : ForSome (g.P.ReadFs.seen l.fn.fs).tree (λ t. IsFront (t l.path) l.all.items);
}

abbrev pub decreases-loop-count : goal.decreases-loop-count
decreases-loop-count g l = l.limit + 1 - vec_len l.all
