use Rattle.std.proofs.Common.{◌≡◌, map, take}
use Rattle.pn_dep_paths.specs.Steps.{group_at}
use Rattle.pn_dep_paths.proofs.groups.row_groups.Given as goal

abbrev pub invariant-loop-p : goal.invariant-loop-p
invariant-loop-p l = l.groups.items ≡ map (group_at l.folders l.instances l.numbers l.texts l.pairs l.i) (take l.p-index l.row)
