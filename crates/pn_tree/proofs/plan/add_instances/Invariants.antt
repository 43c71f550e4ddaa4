use Rattle.std.proofs.Common.{flat_map, take}
use Rattle.pn_tree.specs.Leaves.{instance_leaves}
use Rattle.pn_tree.specs.Drawn.{Draws}
use Rattle.pn_tree.proofs.plan.add_instances.Given as goal

abbrev pub invariant-loop-one : goal.invariant-loop-one
invariant-loop-one l = Draws l.fn.draft l.draft (flat_map (instance_leaves l.store) (take l.one-index l.instances))
