use Rattle.std.proofs.Common.{◌≡◌, length}
use Rattle.std.specs.Prelude.{string_bytes}
use denote.Shadow.{shadow}
use denote.Text.{Utf8}
use Rattle.pn_yaml.specs.Scalars.{double, quoted_at, with_bytes}
use Rattle.pn_yaml.proofs.quoted.escaped_at.Given as goal

abbrev pub invariant-escapes : goal.invariant-escapes
invariant-escapes l = record {
  utf8 : shadow (Utf8 l.rest);
  so_far : quoted_at l.fn.line double l.fn.text ≡ with_bytes (string_bytes l.read) (quoted_at l.fn.line double l.rest);
}

abbrev pub decreases-escapes : goal.decreases-escapes
decreases-escapes l = length l.rest
