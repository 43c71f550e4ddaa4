-- Lists of packages that are wanted.
use Rattle.std.specs.Prelude.{ℕ, List, map}
use Rattle.std.specs.Cmp.Lexicographic.{slice_cmp}
use Rattle.std.specs.List.Sorted.{IsStrictlySortedBy}
use Rattle.std.specs.Ordering.{nat_cmp}
use Rattle.pn_wanted.specs.declared.wanted.Wanted.{Wanted}

abbrev pub ids_of : List Wanted → List (List ℕ)
ids_of wanted = map (λ (w : Wanted). w.id) wanted

-- byte order of ids, no id twice
abbrev pub IsRising : List Wanted → Type 0
IsRising wanted = IsStrictlySortedBy (slice_cmp nat_cmp) (ids_of wanted)
