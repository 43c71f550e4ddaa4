use Rattle.std.proofs.Common.{◌≡◌, length}
use denote.Text.{Utf8}
use denote.Shadow.{shadow}
use Rattle.pn_spec.specs.SpecTexts.{trim_end}
use Rattle.pn_spec.proofs.parts.trim_end.Given as goal

abbrev pub invariant-bytes : goal.invariant-bytes
invariant-bytes l = record {
  utf8 : shadow (Utf8 l.rest);
  same : trim_end l.rest ≡ trim_end l.fn.text;
}

abbrev pub decreases-bytes : goal.decreases-bytes
decreases-bytes l = length l.rest
