use Rattle.std.proofs.Common.{◌≡◌, map, take}
use Rattle.std.specs.List.{All}
use Rattle.pn_package.specs.Listed.{pair_of}
use Rattle.pn_package.specs.Sound.{IsSoundPair}
use Rattle.pn_collect.specs.Outline.{links_of}
use Rattle.pn_collect.proofs.links.links.Given as goal

abbrev pub invariant-loop-dep : goal.invariant-loop-dep
invariant-loop-dep l = record {
  same : map pair_of l.all.items ≡ links_of l.plain.packages (take l.dep-index l.deps);
  sound : All IsSoundPair (links_of l.plain.packages (take l.dep-index l.deps));
}
