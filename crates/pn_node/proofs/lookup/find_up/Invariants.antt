use Rattle.std.proofs.Common.{◌≡◌, length}
use Rattle.std.specs.Option.{ForSome}
use Rattle.pn_fs.specs.Seen.{Keeps}
use Rattle.pn_node.specs.Find.{find}
use Rattle.pn_node.proofs.lookup.find_up.Given as goal

abbrev pub invariant-folders : goal.invariant-folders
invariant-folders g l = record {
  kept : Keeps (g.R.ReadFs.seen l.fn.fs) (g.R.ReadFs.seen l.fs);
  left : ForSome (g.R.ReadFs.seen l.fn.fs).tree (λ t. find t l.folder l.name ≡ find t l.fn.folder l.name);
}

abbrev pub decreases-folders : goal.decreases-folders
decreases-folders g l = length l.folder
