-- Links from an alias to a package.
use Rattle.std.specs.Prelude.{ℕ, List, map}
use Rattle.std.specs.Cmp.Lexicographic.{slice_cmp}
use Rattle.std.specs.List.Sorted.{IsStrictlySortedBy}
use Rattle.std.specs.Ordering.{nat_cmp}

-- `name@version`
abbrev pub Id : Type 0
Id = List ℕ

-- an alias, and the id of the package that it leads to
abbrev pub Pair : Type 0
Pair = List ℕ × Id

abbrev pub aliases : List Pair → List (List ℕ)
aliases pairs = map (λ (l : Pair). l.0) pairs

-- byte order of aliases, no alias twice
abbrev pub IsRising : List Pair → Type 0
IsRising pairs = IsStrictlySortedBy (slice_cmp nat_cmp) (aliases pairs)
