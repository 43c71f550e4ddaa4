use Rattle.std.proofs.Common.{◌≤◌, ◌+◌, vec_len, drop}
use Rattle.std.specs.Option.{ForSome}
use Rattle.pn_fs.specs.Seen.{Keeps, GaveAtMost}
use Rattle.pn_scan.proofs.TakesAllLemmas.{Leads}
use Rattle.pn_scan.proofs.walk.take_all.Given as goal

abbrev pub invariant-loop-name : goal.invariant-loop-name
invariant-loop-name g l = record {
  kept : Keeps (g.P.ReadFs.seen l.fn.fs) (g.P.ReadFs.seen l.fs);
  gave : ForSome (g.P.ReadFs.seen l.fn.fs).tree (λ t. GaveAtMost (g.P.ReadFs.seen l.fn.fs) 0 0 (g.P.ReadFs.seen l.fs));
  grows : vec_len l.todo ≤ vec_len l.fn.todo + l.name-index;
  leads : ForSome (g.P.ReadFs.seen l.fn.fs).tree (λ t. Leads t l.parent (drop l.name-index l.names) l.names l.fn.todo.items l.todo.items l.fn.found.items l.found.items);
}
