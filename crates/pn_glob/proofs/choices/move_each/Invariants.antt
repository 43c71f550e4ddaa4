use Rattle.std.proofs.Common.{◌≡◌, ◌++◌, ℕ, Vec, Global, map}
use Rattle.pn_glob.specs.Grammar.{each_with}
use Rattle.pn_glob.proofs.choices.move_each.Given as goal

abbrev pub invariant-loop-text : goal.invariant-loop-text
invariant-loop-text l =
    map (λ (v : Vec ℕ Global). v.items) l.grown.items
    ≡ map (λ (v : Vec ℕ Global). v.items) l.fn.grown.items ++ each_with (map (λ (v : Vec ℕ Global). v.items) l.yielded) l.fn.more
