use Rattle.std.proofs.Common.{◌≡◌, length}
use Rattle.pn_ranges.specs.Bytes.{behind, is_space}
use Rattle.pn_ranges.proofs.part.behind_spaces.Given as goal

abbrev pub invariant-bytes : goal.invariant-bytes
invariant-bytes l = behind is_space l.rest ≡ behind is_space l.fn.text

abbrev pub decreases-bytes : goal.decreases-bytes
decreases-bytes l = length l.rest
