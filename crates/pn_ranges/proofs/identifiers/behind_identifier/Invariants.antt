use Rattle.std.proofs.Common.{◌≡◌, length}
use Rattle.semver.specs.Grammar.{is_identifier_byte}
use Rattle.pn_ranges.specs.Bytes.{behind}
use Rattle.pn_ranges.proofs.identifiers.behind_identifier.Given as goal

abbrev pub invariant-bytes : goal.invariant-bytes
invariant-bytes l = behind is_identifier_byte l.rest ≡ behind is_identifier_byte l.fn.text

abbrev pub decreases-bytes : goal.decreases-bytes
decreases-bytes l = length l.rest
