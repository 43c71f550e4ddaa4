use Rattle.std.proofs.Common.{map}
use Rattle.pn_registry.specs.Listed.{file_of}
use Rattle.pn_registry.proofs.Above.{NoneAbove}
use Rattle.pn_registry.proofs.apart.has_above.Given as goal

abbrev pub invariant-loop-i : goal.invariant-loop-i
invariant-loop-i l = NoneAbove (map file_of l.files) l.text l.i
