use Rattle.std.proofs.Common.{◌≡◌, map, take}
use Rattle.std.specs.List.{All}
use Rattle.pn_collect.specs.Outline.{bare_of, IsSoundBare}
use Rattle.pn_collect.proofs.bare.as_met.Given as goal

abbrev pub invariant-loop-node : goal.invariant-loop-node
invariant-loop-node l = record {
  same : l.all.items ≡ map (bare_of l.plain.packages) (take l.node-index l.node-items);
  sound : All IsSoundBare l.all.items;
}
