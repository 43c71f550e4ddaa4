use Rattle.std.proofs.Common.{◌≡◌, length, map}
use Rattle.std.specs.Prelude.{reverse}
use denote.Text.{Utf8}
use denote.Shadow.{shadow}
use Rattle.pn_lock_shape.specs.Targets.{walked}
use Rattle.pn_lock_shape.proofs.link.walk.Given as goal

-- what is left leads from here to where the whole leads
abbrev pub invariant-parts : goal.invariant-parts
invariant-parts l = shadow (Utf8 l.left) × (walked l.left (reverse (map (λ x. x.now) l.parts.items)) ≡ walked l.fn.text (reverse (map (λ x. x.now) l.fn.parts.items)))

abbrev pub decreases-parts : goal.decreases-parts
decreases-parts l = length l.left
