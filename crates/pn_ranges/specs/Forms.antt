-- The form of range sets: the grammar without regard to the limits that a text gives, and how many they are.
use Rattle.std.specs.Prelude.{ℕ, List, [], ◌∷◌, ◌++◌}
use Rattle.pn_ranges.specs.declared.comparator.Sign.{Sign}
use Rattle.pn_ranges.specs.Grammar.{AreGaps, AreSpaces, IsComparator, IsEnd}
use Rattle.pn_ranges.specs.Table.{Named}

-- comparators with spaces between them
pub data AreCompared : List ℕ → Type 0 where
  one : (t : List ℕ) (x : Sign) (n : Named) → IsComparator t x n → AreCompared t
  more : (t s u : List ℕ) (x : Sign) (n : Named) → IsComparator t x n → AreGaps s → AreCompared u → AreCompared (t ++ (s ++ u))

-- a range without the spaces around it: empty, comparators, or `A - B`
pub data IsForm : List ℕ → Type 0 where
  empty : IsForm []
  comparators : (t : List ℕ) → AreCompared t → IsForm t
  hyphen : (a s r b : List ℕ) (low high : Named) → IsEnd a low → AreGaps s → AreGaps r → IsEnd b high
      → IsForm (a ++ (s ++ 45 ∷ (r ++ b)))

-- ranges joined by `||`, each with spaces around it
pub data AreForms : List ℕ → Type 0 where
  one : (s t r : List ℕ) → AreSpaces s → IsForm t → AreSpaces r → AreForms (s ++ (t ++ r))
  more : (s t r u : List ℕ) → AreSpaces s → IsForm t → AreSpaces r → AreForms u → AreForms (s ++ (t ++ (r ++ 124 ∷ 124 ∷ u)))

-- a text of this form begins so
abbrev pub IsFront : List ℕ → Type 0
IsFront text = (more : List ℕ) × AreForms (text ++ more)
