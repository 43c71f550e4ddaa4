use Rattle.std.proofs.Common.{ℕ, Vec, Global, length, map}
use Rattle.pn_glob.specs.Reading.{SpelledAt}
use Rattle.pn_glob.proofs.choices.texts_of.Given as goal

abbrev pub invariant-pieces : goal.invariant-pieces
invariant-pieces l = SpelledAt l.fn.body (map (λ (v : Vec ℕ Global). v.items) l.texts.items) l.rest

abbrev pub decreases-pieces : goal.decreases-pieces
decreases-pieces l = length l.rest
