use Rattle.std.proofs.Common.{◌≡◌, take}
use Rattle.std.specs.Prelude.{string_bytes}
use Rattle.pn_text.specs.Path.{text_below}
use Rattle.pn_text.specs.Relative.{dots, slashes}
use Rattle.pn_lock_print.proofs.link.steps_for.Given as goal

abbrev pub invariant-loop-b : goal.invariant-loop-b
invariant-loop-b l = string_bytes l.steps ≡ text_below (dots (slashes (take l.b-index l.text)))
