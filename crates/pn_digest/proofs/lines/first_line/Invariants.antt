use Rattle.std.proofs.Common.{◌≡◌, take, false}
use Rattle.pn_digest.specs.Listing.{has_feed}
use Rattle.pn_digest.proofs.lines.first_line.Given as goal

abbrev pub invariant-loop-i : goal.invariant-loop-i
invariant-loop-i l = has_feed (take l.i l.bytes) ≡ false
