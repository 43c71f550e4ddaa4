-- Names with texts.
use Rattle.std.specs.Prelude.{ℕ, List, Bool, false, Option, Some, None, map}
use Rattle.std.specs.Cmp.Lexicographic.{slice_cmp}
use Rattle.std.specs.List.Sorted.{IsStrictlySortedBy}
use Rattle.std.specs.Ordering.{nat_cmp}
use Rattle.std.specs.Str.{bytes_eq}

-- a name or another text, and the text under it
abbrev pub Pair : Type 0
Pair = List ℕ × List ℕ

abbrev pub names : List Pair → List (List ℕ)
names pairs = map (λ (e : Pair). e.0) pairs

-- byte order of names, no name twice
abbrev pub IsRising : List Pair → Type 0
IsRising pairs = IsStrictlySortedBy (slice_cmp nat_cmp) (names pairs)

-- whether a name is that of the manifest itself
abbrev pub is_own : Option (List ℕ) → List ℕ → Bool
is_own None name = false
is_own (Some own) name = bytes_eq own name
