use Rattle.std.proofs.Common.{◌≡◌, length}
use Rattle.std.specs.Prelude.{string_bytes}
use denote.Shadow.{shadow}
use denote.Text.{Utf8}
use Rattle.pn_yaml.specs.Scalars.{single, quoted_at, with_bytes}
use Rattle.pn_yaml.proofs.quoted.doubled_at.Given as goal

abbrev pub invariant-quotes : goal.invariant-quotes
invariant-quotes l = record {
  utf8 : shadow (Utf8 l.rest);
  so_far : quoted_at l.fn.line single l.fn.text ≡ with_bytes (string_bytes l.read) (quoted_at l.fn.line single l.rest);
}

abbrev pub decreases-quotes : goal.decreases-quotes
decreases-quotes l = length l.rest
