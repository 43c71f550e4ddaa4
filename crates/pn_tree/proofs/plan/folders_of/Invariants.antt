use Rattle.std.proofs.Common.{◌≡◌, take}
use Rattle.pn_tree.specs.Sound.{folders}
use Rattle.pn_tree.proofs.plan.folders_of.Given as goal

abbrev pub invariant-loop-one : goal.invariant-loop-one
invariant-loop-one l = l.all.items ≡ folders (take l.one-index l.managed)
