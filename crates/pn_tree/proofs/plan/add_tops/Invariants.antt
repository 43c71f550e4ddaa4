use Rattle.std.proofs.Common.{map, take}
use Rattle.pn_tree.specs.Leaves.{top_leaf}
use Rattle.pn_tree.specs.Drawn.{Draws}
use Rattle.pn_tree.proofs.plan.add_tops.Given as goal

abbrev pub invariant-loop-one : goal.invariant-loop-one
invariant-loop-one l = Draws l.fn.draft l.draft (map top_leaf (take l.one-index l.tops))
