use Rattle.std.proofs.Common.{◌≡◌, ◌++◌, map, drop}
use Rattle.pn_manifest.specs.Listed.{pair_of}
use Rattle.pn_manifest.proofs.dependencies.copy_all.Given as goal

-- what is left leads from what was copied to the whole
abbrev pub invariant-loop-item : goal.invariant-loop-item
invariant-loop-item l = map pair_of l.all.items ++ map pair_of (drop l.item-index l.items) ≡ map pair_of l.items
