use Rattle.std.proofs.Common.{◌≡◌, ◌++◌, ℕ, List, length}
use Rattle.std.specs.Prelude.{◌==◌, ◌||◌, false}
use Rattle.std.specs.List.{list_any}
use Rattle.pn_yaml.proofs.quoted.end_at.Given as goal

abbrev pub invariant-bytes : goal.invariant-bytes
invariant-bytes l = (front : List ℕ) × (l.fn.text ≡ front ++ l.rest) × (list_any (λ c. c == l.fn.a || c == l.fn.b) front ≡ false)

abbrev pub decreases-bytes : goal.decreases-bytes
decreases-bytes l = length l.rest
