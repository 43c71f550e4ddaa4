use Rattle.std.proofs.Common.{◌≡◌}
use Rattle.pn_instances.specs.Singles.{places}
use Rattle.pn_instances.proofs.singles.all_places.Given as goal

abbrev pub invariant-loop-at : goal.invariant-loop-at
invariant-loop-at l = l.places.items ≡ places l.at
