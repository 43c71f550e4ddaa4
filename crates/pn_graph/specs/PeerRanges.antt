-- The versions that a peer's specifier takes.
use Rattle.std.specs.Prelude.{ℕ, List, codes}
use Rattle.pn_ranges.specs.Limits.{Limit}
use Rattle.pn_ranges.specs.Grammar.{Spells}

-- the range `*`
abbrev pub IsAny : List (List Limit) → Type 0
IsAny range = Spells (codes "*") range

-- A specifier that spells no range is read as `*`.
pub data IsPeerRange (text : List ℕ) (range : List (List Limit)) : Type 0 where
  spelled : Spells text range → IsPeerRange text range
  other : ((r : List (List Limit)) → Spells text r → ⊥) → IsAny range → IsPeerRange text range
