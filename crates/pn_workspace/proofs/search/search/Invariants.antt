use Rattle.std.proofs.Common.{◌≡◌, length}
use Rattle.std.specs.Option.{ForSome}
use Rattle.pn_fs.specs.Seen.{GaveNothing, Keeps}
use Rattle.pn_workspace.specs.Roots.{nearest}
use Rattle.pn_workspace.specs.Workspaces.{Fits}
use Rattle.pn_workspace.proofs.search.search.Given as goal

abbrev pub invariant-folders : goal.invariant-folders
invariant-folders g l = record {
  fits : Fits l.at;
  kept : Keeps (g.P.ReadFs.seen l.fn.fs) (g.P.ReadFs.seen l.fs);
  gave : ForSome (g.P.ReadFs.seen l.fn.fs).tree (λ t. GaveNothing (g.P.ReadFs.seen l.fn.fs) (g.P.ReadFs.seen l.fs));
  same : ForSome (g.P.ReadFs.seen l.fn.fs).tree (λ t. nearest t l.place ≡ nearest t l.at);
}

abbrev pub decreases-folders : goal.decreases-folders
decreases-folders g l = length l.at
