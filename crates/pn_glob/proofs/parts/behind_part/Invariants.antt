use Rattle.std.proofs.Common.{◌≡◌, ◌++◌, ℕ, List, length}
use Rattle.pn_glob.proofs.PartsLemmas.{is_flat}
use Rattle.pn_glob.proofs.parts.behind_part.Given as goal

abbrev pub invariant-bytes : goal.invariant-bytes
invariant-bytes l = (front : List ℕ) × (l.fn.text ≡ front ++ l.rest) × is_flat front

abbrev pub decreases-bytes : goal.decreases-bytes
decreases-bytes l = length l.rest
