use Rattle.std.proofs.Common.{◌≡◌, ◌++◌, ℕ, List, length, true}
use Rattle.std.specs.List.{list_all}
use Rattle.pn_glob.specs.Grammar.{is_plain}
use Rattle.pn_glob.proofs.choices.behind_plain.Given as goal

abbrev pub invariant-bytes : goal.invariant-bytes
invariant-bytes l = (front : List ℕ) × (l.fn.text ≡ front ++ l.rest) × (list_all is_plain front ≡ true)

abbrev pub decreases-bytes : goal.decreases-bytes
decreases-bytes l = length l.rest
