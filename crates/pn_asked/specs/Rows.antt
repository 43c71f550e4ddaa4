-- Keys, and rows of a key and a value.
use Rattle.std.specs.Prelude.{ℕ, Bool, true, false, not, List, [], ◌∷◌, map, Option, Some, None, if◌then◌else◌, bytes_eq}
use Rattle.std.specs.List.{find, list_any}
use Rattle.std.specs.Ordering.{is_lt, nat_cmp}
use Rattle.std.specs.Cmp.Lexicographic.{slice_cmp}

abbrev pub Row : Type 0
Row = List ℕ × List ℕ

abbrev pub keys : List Row → List (List ℕ)
keys rows = map (λ (r : Row). r.0) rows

abbrev pub is_in : List (List ℕ) → List ℕ → Bool
is_in ks key = list_any (λ k. bytes_eq k key) ks

-- what stands under a key
abbrev pub at_key : List ℕ → List Row → Option (List ℕ)
at_key key [] = None
at_key key (r ∷ rows) = if bytes_eq r.0 key then Some r.1 else at_key key rows

-- both have the same, or nothing
abbrev pub agree : Option (List ℕ) → Option (List ℕ) → Bool
agree None None = true
agree (Some a) (Some b) = bytes_eq a b
agree None (Some b) = false
agree (Some a) None = false

-- the first key of these rows under which those have another value, or none
abbrev pub first_other : List Row → List Row → Option (List ℕ)
first_other these those = find (λ k. not (agree (at_key k these) (at_key k those))) (keys these)

-- the first of these keys that isn't among those
abbrev pub first_missing : List (List ℕ) → List (List ℕ) → Option (List ℕ)
first_missing these those = find (λ k. not (is_in those k)) these

-- of two keys the one that is before the other
abbrev pub lesser : Option (List ℕ) → Option (List ℕ) → Option (List ℕ)
lesser None other = other
lesser (Some a) None = Some a
lesser (Some a) (Some b) = if is_lt (slice_cmp nat_cmp b a) then Some b else Some a
