use Rattle.std.proofs.Common.{length}
use Rattle.pn_digest.proofs.ListingTextLemmas.{IsReading}
use Rattle.pn_digest.proofs.lines.files_of.Given as goal

abbrev pub invariant-lines : goal.invariant-lines
invariant-lines l = IsReading l.bytes l.rest l.files.items

abbrev pub decreases-lines : goal.decreases-lines
decreases-lines l = length l.rest
