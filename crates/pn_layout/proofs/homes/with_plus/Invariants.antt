use Rattle.std.proofs.Common.{◌≡◌, ◌++◌, length, map, string_bytes}
use denote.Text.{Utf8}
use denote.Shadow.{shadow}
use Rattle.pn_layout.specs.Store.{plus_for_slash}
use Rattle.pn_layout.proofs.homes.with_plus.Given as goal

abbrev pub invariant-slashes : goal.invariant-slashes
invariant-slashes l = shadow (Utf8 l.rest) × (string_bytes l.all ++ map plus_for_slash l.rest ≡ map plus_for_slash l.fn.text)

abbrev pub decreases-slashes : goal.decreases-slashes
decreases-slashes l = length l.rest
