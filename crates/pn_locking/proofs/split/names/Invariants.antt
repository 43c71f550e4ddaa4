use Rattle.std.proofs.Common.{◌≡◌, ◌++◌, drop, map}
use Rattle.pn_manifest.specs.Listed.{pair_of}
use Rattle.pn_manifest.specs.Pairs.{names}
use Rattle.pn_locking.proofs.split.names.Given as goal

abbrev pub invariant-loop-dependency : goal.invariant-loop-dependency
invariant-loop-dependency l = l.all.items ++ names (map pair_of (drop l.dependency-index l.dependency-items)) ≡ names (map pair_of l.dependency-items)
