use Rattle.std.proofs.Common.{◌≡◌, length}
use denote.Text.{Utf8}
use denote.Shadow.{shadow}
use Rattle.pn_ranges.specs.Bytes.{behind, is_space}
use Rattle.pn_spec.proofs.parts.trim_start.Given as goal

abbrev pub invariant-bytes : goal.invariant-bytes
invariant-bytes l = record {
  utf8 : shadow (Utf8 l.rest);
  same : behind is_space l.rest ≡ behind is_space l.fn.text;
}

abbrev pub decreases-bytes : goal.decreases-bytes
decreases-bytes l = length l.rest
