use Rattle.std.proofs.Common.{map, take}
use Rattle.pn_tree.specs.Leaves.{target_leaf}
use Rattle.pn_tree.specs.Drawn.{Draws}
use Rattle.pn_tree.proofs.leaves.add_targets.Given as goal

abbrev pub invariant-loop-target : goal.invariant-loop-target
invariant-loop-target l = Draws l.fn.draft l.draft (map (target_leaf l.store l.one) (take l.target-index l.target-items))
