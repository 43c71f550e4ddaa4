use Rattle.std.proofs.Common.{◌≡◌, ◌<◌, ◌^◌, length}
use Rattle.pn_ranges.specs.Bytes.{behind, is_digit, number_at, number_from}
use Rattle.pn_ranges.proofs.part.number.Given as goal

abbrev pub invariant-bytes : goal.invariant-bytes
invariant-bytes l = record {
  value : number_from l.n l.rest ≡ number_at l.fn.text;
  fits : l.n < 2 ^ 64;
  rest : behind is_digit l.rest ≡ behind is_digit l.fn.text;
}

abbrev pub decreases-bytes : goal.decreases-bytes
decreases-bytes l = length l.rest
