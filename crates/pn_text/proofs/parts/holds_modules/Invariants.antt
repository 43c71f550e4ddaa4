use Rattle.std.proofs.Common.{◌≡◌, length}
use Rattle.pn_text.specs.Path.{tail_of}
use Rattle.pn_text.specs.Name.{holds_modules}
use Rattle.pn_text.proofs.parts.holds_modules.Given as goal

abbrev pub invariant-parts : goal.invariant-parts
invariant-parts l = holds_modules (tail_of l.rest) ≡ holds_modules (tail_of l.parts)

abbrev pub decreases-parts : goal.decreases-parts
decreases-parts l = length l.rest
