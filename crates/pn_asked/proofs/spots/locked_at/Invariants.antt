use Rattle.std.proofs.Common.{◌≡◌, drop}
use Rattle.pn_asked.specs.Spots.{locked_at}
use Rattle.pn_asked.proofs.spots.locked_at.Given as goal

abbrev pub invariant-loop-entry : goal.invariant-loop-entry
invariant-loop-entry l = locked_at l.spot (drop l.entry-index l.entries) ≡ locked_at l.fn.spot l.fn.entries
