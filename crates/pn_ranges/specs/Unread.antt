-- How far a text is read whole: up to a range's end, or up to a bound that would be raised to 2^64.
use Rattle.std.specs.Prelude.{◌≡◌, ◌++◌, ◌==◌, ℕ, Bool, true, false, List, [], ◌∷◌, Option, Some, None}
use Rattle.pn_ranges.specs.declared.comparator.Sign.{Sign}
use Rattle.pn_ranges.specs.Bytes.{is_body, is_space, behind, starts_with}
use Rattle.pn_ranges.specs.Grammar.{AreGaps, IsComparator, IsEnd}
use Rattle.pn_ranges.specs.Overs.{NoLower, OverAt, OverUpper}
use Rattle.pn_ranges.specs.Table.{Named, all_fit, limits, upper_limits}

-- where a range ends: at the text's end or a `|`
abbrev pub ends_range : List ℕ → Bool
ends_range [] = true
ends_range (b ∷ rest) = b == 124

-- the same behind spaces
abbrev pub Closes : List ℕ → Type 0
Closes rest = ends_range (behind is_space rest) ≡ true

-- a text begins with no end of `A - B`, behind which nothing more of a version stands
abbrev pub NoEnd : List ℕ → Type 0
NoEnd text = (t rest : List ℕ) (n : Named) → IsEnd t n → starts_with is_body rest ≡ false → text ≡ t ++ rest → ⊥

-- the same of a comparator, also where spaces stand in front of it
abbrev pub NoCompared : List ℕ → Type 0
NoCompared text = (t rest : List ℕ) (x : Sign) (n : Named) → IsComparator t x n → starts_with is_body rest ≡ false
    → text ≡ behind is_space (t ++ rest) → ⊥

-- the same of spaces and an end of `A - B`
abbrev pub NoUpper : List ℕ → Type 0
NoUpper text = (s t rest : List ℕ) (n : Named) → AreGaps s → IsEnd t n → starts_with is_body rest ≡ false → text ≡ s ++ (t ++ rest) → ⊥

-- comparators up to their range's end, or up to a raised bound, of which the count of bytes left is given
pub data LaterTo : List ℕ → Option ℕ → Type 0 where
  raised : (text rest : List ℕ) (left : ℕ) → OverAt text rest left → LaterTo text (Some left)
  last : (t rest : List ℕ) (x : Sign) (n : Named) → IsComparator t x n → all_fit (limits x n) ≡ true → Closes rest → LaterTo (t ++ rest) None
  more : (t s u : List ℕ) (x : Sign) (n : Named) (to : Option ℕ) → IsComparator t x n → all_fit (limits x n) ≡ true → AreGaps s
      → LaterTo u to → LaterTo (t ++ (s ++ u)) to

-- the same of what stands behind the `-` of `A - B`
pub data UpperTo : List ℕ → Option ℕ → Type 0 where
  raised : (text : List ℕ) (left : ℕ) → OverUpper text left → UpperTo text (Some left)
  last : (s t rest : List ℕ) (n : Named) → AreGaps s → IsEnd t n → all_fit (upper_limits n) ≡ true → Closes rest → UpperTo (s ++ (t ++ rest)) None

-- the same of a range
pub data RangeTo : List ℕ → Option ℕ → Type 0 where
  empty : (text : List ℕ) → Closes text → RangeTo text None
  comparators : (text : List ℕ) (to : Option ℕ) → NoLower text → LaterTo text to → RangeTo text to
  upper : (a s u : List ℕ) (n : Named) (to : Option ℕ) → IsEnd a n → AreGaps s → UpperTo u to → RangeTo (a ++ (s ++ 45 ∷ u)) to

-- a text isn't read so far, nor is it with other spaces in front of it
abbrev pub NeverTo : (List ℕ → Option ℕ → Type 0) → List ℕ → Type 0
NeverTo To text = (other : List ℕ) (to : Option ℕ) → To other to → behind is_space other ≡ behind is_space text → ⊥

-- a text where a range doesn't end isn't read so far from a later comparator on
abbrev pub NoLater : List ℕ → Type 0
NoLater text = (ends_range text ≡ false) × NeverTo LaterTo text

-- the same of a text behind the `-` of `A - B`
abbrev pub NoRest : List ℕ → Type 0
NoRest text = (to : Option ℕ) → UpperTo text to → ⊥
