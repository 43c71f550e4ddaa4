use Rattle.std.proofs.Common.{◌≡◌, length}
use Rattle.pn_dep_paths.proofs.base.empty.Given as goal

abbrev pub invariant-loop : goal.invariant-loop
invariant-loop l = length l.texts.items ≡ l.counter
