use Rattle.std.proofs.Common.{◌≡◌, length}
use Rattle.pn_ranges.specs.Bytes.{behind, is_digit}
use Rattle.pn_ranges.proofs.identifiers.behind_digits.Given as goal

abbrev pub invariant-bytes : goal.invariant-bytes
invariant-bytes l = behind is_digit l.rest ≡ behind is_digit l.fn.text

abbrev pub decreases-bytes : goal.decreases-bytes
decreases-bytes l = length l.rest
