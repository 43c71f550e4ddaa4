use Rattle.std.proofs.Common.{◌≡◌, ◌++◌, ℕ, Vec, Global, length, map}
use Rattle.pn_glob.specs.Grammar.{each_with}
use Rattle.pn_glob.proofs.choices.push_each.Given as goal

abbrev pub invariant-texts : goal.invariant-texts
invariant-texts l =
    map (λ (v : Vec ℕ Global). v.items) l.grown.items ++ each_with (map (λ (v : Vec ℕ Global). v.items) l.left) l.fn.more
    ≡ map (λ (v : Vec ℕ Global). v.items) l.fn.grown.items ++ each_with (map (λ (v : Vec ℕ Global). v.items) l.fn.texts) l.fn.more

abbrev pub decreases-texts : goal.decreases-texts
decreases-texts l = length l.left
