use Rattle.std.proofs.Common.{◌≡◌, map, take, IfSome}
use Rattle.std.specs.List.{All}
use Rattle.pn_fs.specs.Seen.{Keeps}
use Rattle.pn_collect.specs.Outline.{outline, dressed, IsMade, HasFiles}
use Rattle.pn_collect.proofs.Firsts.{Passes}
use Rattle.pn_collect.proofs.packages.packages.Given as goal

abbrev pub invariant-loop-one : goal.invariant-loop-one
invariant-loop-one g l = record {
  outlines : map outline l.all.items ≡ map dressed (take l.one-index l.bare);
  made : All IsMade l.all.items;
  files : IfSome (g.R.ReadFs.seen l.fn.registry).tree (λ t. All (HasFiles t) l.all.items);
  passed : All (Passes (g.R.ReadFs.seen l.fn.registry).tree) (take l.one-index l.bare);
  kept : Keeps (g.R.ReadFs.seen l.fn.registry) (g.R.ReadFs.seen l.registry);
}
