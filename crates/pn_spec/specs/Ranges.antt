-- When a text is no range.
use Rattle.std.specs.Prelude.{◌≡◌, ℕ, ◌==◌, ◌||◌, Bool, false, List}
use Rattle.std.specs.List.{list_any}
use Rattle.pn_ranges.specs.Grammar.{Spells}
use Rattle.pn_ranges.specs.Limits.{Limit}

-- an `@` or a `:`
abbrev pub is_foreign : ℕ → Bool
is_foreign b = (b == 64) || (b == 58)

abbrev pub has_foreign : List ℕ → Bool
has_foreign t = list_any is_foreign t

-- it spells no ranges
abbrev pub IsNoRange : List ℕ → Type 0
IsNoRange t = (r : List (List Limit)) → Spells t r → ⊥

-- No range has an `@` or a `:`.
abbrev pub ForeignLaw : Type 0
ForeignLaw = (t : List ℕ) (r : List (List Limit)) → Spells t r → has_foreign t ≡ false
