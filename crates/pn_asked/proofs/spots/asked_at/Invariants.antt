use Rattle.std.proofs.Common.{◌≡◌, drop}
use Rattle.pn_asked.specs.Spots.{asked_at}
use Rattle.pn_asked.proofs.spots.asked_at.Given as goal

abbrev pub invariant-loop-entry : goal.invariant-loop-entry
invariant-loop-entry l = asked_at l.spot (drop l.entry-index l.entries) ≡ asked_at l.fn.spot l.fn.entries
