use Rattle.std.proofs.Common.{◌≡◌, map, take}
use Rattle.std.specs.Prelude.{reverse, string_bytes}
use Rattle.pn_text.specs.Path.{text_below}
use Rattle.pn_lock_shape.proofs.link.text_below.Given as goal

-- the text of the parts so far
abbrev pub invariant-loop-part : goal.invariant-loop-part
invariant-loop-part l = string_bytes l.text ≡ text_below (reverse (map (λ x. x.now) (take l.part-index l.parts)))
