-- Bounds that would be raised to 2^64, in texts that are read whole up to them.
use Rattle.std.specs.Prelude.{◌≡◌, ◌<◌, ℕ, suc, not, List, ◌∷◌, ◌++◌, length, Option, true, false}
use Rattle.std.specs.List.{list_all}
use Rattle.pn_ranges.specs.declared.comparator.Sign.{Sign}
use Rattle.pn_ranges.specs.Bytes.{is_body, is_lead, is_open, starts_with}
use Rattle.pn_ranges.specs.Grammar.{AreGaps, AreSpaces, IsComparator, IsEnd, IsPart, IsPartial, IsRange}
use Rattle.pn_ranges.specs.Limits.{Limit}
use Rattle.pn_ranges.specs.Table.{Named, all_fit, any, full, limits, major, minor, raised, upper_limits, upper_raised}

-- a partial version from one of its parts on, which are counted from 0
pub data PartFrom : List ℕ → ℕ → List ℕ → Type 0 where
  here : (t : List ℕ) → PartFrom t 0 t
  behind : (t u from : List ℕ) (a : Option ℕ) (k : ℕ) → IsPart t a → PartFrom u k from → PartFrom (t ++ 46 ∷ u) (suc k) from

-- a comparator or an end of `A - B` from one of the parts of its version on
pub record PartOf (t : List ℕ) (n : Named) (k : ℕ) (from : List ℕ) : Type 0 where
  pub before : List ℕ
  pub partial : List ℕ
  pub split : t ≡ before ++ partial
  pub outside : list_all (λ b. not (is_open b)) before ≡ true
  pub is : IsPartial partial n
  pub part : PartFrom partial k from

-- a text begins with a comparator, behind which nothing more of a version stands, and one of its limits has a number of
-- 2^64; and how many bytes are left from the part on that the limit raises
pub record OverAt (text rest : List ℕ) (left : ℕ) : Type 0 where
  pub front : List ℕ
  pub from : List ℕ
  pub sign : Sign
  pub name : Named
  pub split : text ≡ front ++ rest
  pub read : IsComparator front sign name
  pub ends : starts_with is_body rest ≡ false
  pub large : all_fit (limits sign name) ≡ false
  pub part : PartOf front name (raised sign name) from
  pub place : left ≡ length (from ++ rest)

-- the same of spaces and an upper end of `A - B`
pub record OverUpper (text : List ℕ) (left : ℕ) : Type 0 where
  pub gaps : List ℕ
  pub front : List ℕ
  pub rest : List ℕ
  pub from : List ℕ
  pub name : Named
  pub split : text ≡ gaps ++ (front ++ rest)
  pub apart : AreGaps gaps
  pub read : IsEnd front name
  pub ends : starts_with is_body rest ≡ false
  pub large : all_fit (upper_limits name) ≡ false
  pub part : PartOf front name (upper_raised name) from
  pub place : left ≡ length (from ++ rest)

-- such a comparator, behind comparators whose limits fit
pub data OverLater : List ℕ → ℕ → Type 0 where
  here : (text rest : List ℕ) (left : ℕ) → OverAt text rest left → OverLater text left
  behind : (t s u : List ℕ) (x : Sign) (n : Named) (left : ℕ) → IsComparator t x n → all_fit (limits x n) ≡ true → AreGaps s
      → OverLater u left → OverLater (t ++ (s ++ u)) left

-- a text begins with no lower end and the `-` of `A - B`
abbrev pub NoLower : List ℕ → Type 0
NoLower text = (s a p r : List ℕ) (n : Named) → AreSpaces s → IsEnd a n → AreGaps p → text ≡ s ++ (a ++ (p ++ 45 ∷ r)) → ⊥

-- a range up to such a comparator, or to such an upper end
pub data OverRange : List ℕ → ℕ → Type 0 where
  comparators : (text : List ℕ) (left : ℕ) → NoLower text → OverLater text left → OverRange text left
  upper : (a s u : List ℕ) (n : Named) (left : ℕ) → IsEnd a n → AreGaps s → OverUpper u left → OverRange (a ++ (s ++ 45 ∷ u)) left

-- the same behind ranges with `||` between them: a bound would be raised to 2^64, all before it is read whole, and so
-- many bytes are left from the part on that it raises
pub data HasOver : List ℕ → ℕ → Type 0 where
  here : (s u : List ℕ) (left : ℕ) → AreSpaces s → OverRange u left → HasOver (s ++ u) left
  behind : (s t r u : List ℕ) (k : ℕ) (ls : List Limit) (left : ℕ) → AreSpaces s → IsRange t k ls → AreSpaces r → HasOver u left
      → HasOver (s ++ (t ++ (r ++ 124 ∷ 124 ∷ u))) left

-- how many parts of a version it names
abbrev pub parts_of : Named → ℕ
parts_of any = 0
parts_of (major a) = 1
parts_of (minor a b) = 2
parts_of (full a b c pre) = 3

-- a part of a partial version, with how many bytes are left from it on
pub record PlacedAt (partial rest : List ℕ) (k left : ℕ) : Type 0 where
  pub from : List ℕ
  pub is : PartFrom partial k from
  pub place : left ≡ length (from ++ rest)

-- an end of `A - B` and what is behind it, with the places of the parts that it names
pub record PartsAt (n : Named) (left : ℕ → ℕ) (text rest : List ℕ) : Type 0 where
  pub leads : List ℕ
  pub partial : List ℕ
  pub split : text ≡ leads ++ (partial ++ rest)
  pub lead : list_all is_lead leads ≡ true
  pub is : IsPartial partial n
  pub places : (k : ℕ) → k < parts_of n → PlacedAt partial rest k (left k)
