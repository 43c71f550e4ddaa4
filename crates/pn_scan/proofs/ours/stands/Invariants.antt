use Rattle.std.proofs.Common.{vec_len}
use Rattle.std.specs.Option.{ForSome}
use Rattle.pn_fs.specs.Seen.{Keeps, GaveNothing}
use Rattle.pn_scan.proofs.UpsLemmas.{Downs}
use Rattle.pn_scan.proofs.ours.stands.Given as goal

abbrev pub invariant-ways : goal.invariant-ways
invariant-ways g l = record {
  kept : Keeps (g.P.ReadFs.seen l.fn.fs) (g.P.ReadFs.seen l.fs);
  gave : ForSome (g.P.ReadFs.seen l.fn.fs).tree (λ t. GaveNothing (g.P.ReadFs.seen l.fn.fs) (g.P.ReadFs.seen l.fs));
  downs : ForSome (g.P.ReadFs.seen l.fn.fs).tree (λ t. Downs t l.path l.ways.items);
}

abbrev pub decreases-ways : goal.decreases-ways
decreases-ways g l = vec_len l.ways
