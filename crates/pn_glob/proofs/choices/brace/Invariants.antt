use Rattle.std.proofs.Common.{ℕ, Vec, Global, length, map}
use Rattle.pn_glob.specs.Reading.{OpenedAt}
use Rattle.pn_glob.proofs.choices.brace.Given as goal

abbrev pub invariant-choices : goal.invariant-choices
invariant-choices l = OpenedAt (map (λ (v : Vec ℕ Global). v.items) l.fn.texts.items) l.fn.text (map (λ (v : Vec ℕ Global). v.items) l.grown.items) l.rest

abbrev pub decreases-choices : goal.decreases-choices
decreases-choices l = length l.rest
