use Rattle.std.proofs.Common.{◌≡◌, map, take}
use Rattle.pn_components.specs.Walks.{number_of}
use Rattle.pn_components.proofs.strong.numbers.Given as goal

abbrev pub invariant-loop-mark : goal.invariant-loop-mark
invariant-loop-mark l = l.all.items ≡ map number_of (take l.mark-index l.marks)
