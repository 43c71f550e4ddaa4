-- Keys of a list.
use Rattle.std.specs.Prelude.{◌≡◌, ◌&&◌, ℕ, Bool, true, false, not, List, [], ◌∷◌, bytes_eq}
use Rattle.std.specs.List.{AllByRecursion}
use Rattle.std.specs.Cmp.Lexicographic.{slice_cmp}
use Rattle.std.specs.Ordering.{is_lt, nat_cmp}
use Rattle.pn_lock.specs.Kept.{is_in}

-- no key stands twice
abbrev pub are_once : List (List ℕ) → Bool
are_once [] = true
are_once (k ∷ ks) = not (is_in ks k) && are_once ks

-- the same, as a fact of each key
abbrev pub Once : List (List ℕ) → Type 0
Once [] = Unit {0}
Once (k ∷ ks) = AllByRecursion (λ y. bytes_eq y k ≡ false) ks × Once ks

-- whether each key is before the next one
abbrev pub is_before_first : List ℕ → List (List ℕ) → Bool
is_before_first k [] = true
is_before_first k (j ∷ js) = is_lt (slice_cmp nat_cmp k j)

abbrev pub rising : List (List ℕ) → Bool
rising [] = true
rising (k ∷ ks) = is_before_first k ks && rising ks
