-- The grammar of version ranges: which text spells which lists of limits.
use Rattle.std.specs.Prelude.{◌≡◌, ◌<◌, ◌^◌, ◌≤◌, ℕ, ◌+◌, ◌==◌, ◌&&◌, Bool, true, false, List, [], ◌∷◌, ◌++◌, Option, Some, None}
use Rattle.std.specs.List.{list_all}
use Rattle.semver.specs.Grammar.{is_build_identifier, is_pre_identifier}
use Rattle.pn_ranges.specs.declared.comparator.Sign.{Sign}
use Rattle.pn_ranges.specs.declared.comparator.Sign.TheVariants as sign
use Rattle.pn_ranges.specs.Bytes.{is_space, is_lead, is_wild, is_digit, starts_with, number_at}
use Rattle.pn_ranges.specs.Limits.{Limit}
use Rattle.pn_ranges.specs.Table.{Named, named, limits, between, or_any, all_fit}

-- any number of spaces and tabs
abbrev pub AreSpaces : List ℕ → Type 0
AreSpaces s = list_all is_space s ≡ true

-- at least one of them
pub record AreGaps (s : List ℕ) : Type 0 where
  pub spaces : list_all is_space s ≡ true
  pub some : starts_with is_space s ≡ true

-- a number without leading zero
pub data IsNumber : List ℕ → ℕ → Type 0 where
  zero : IsNumber (48 ∷ []) 0
  counted : (b : ℕ) (bs : List ℕ) → is_digit b ≡ true → (b == 48) ≡ false → list_all is_digit bs ≡ true → IsNumber (b ∷ bs) (number_at (b ∷ bs))

-- a number below 2^64, or a wildcard
pub data IsPart : List ℕ → Option ℕ → Type 0 where
  number : (t : List ℕ) (n : ℕ) → IsNumber t n → n < 2 ^ 64 → IsPart t (Some n)
  wild : (b : ℕ) → is_wild b ≡ true → IsPart (b ∷ []) None

-- identifiers joined by dots
pub data AreIdentifiers (right : List ℕ → Bool) : List ℕ → Type 0 where
  one : (x : List ℕ) → right x ≡ true → AreIdentifiers right x
  more : (x t : List ℕ) → right x ≡ true → AreIdentifiers right t → AreIdentifiers right (x ++ 46 ∷ t)

-- a build, which may be absent
pub data IsBuild : List ℕ → Type 0 where
  absent : IsBuild []
  build : (u : List ℕ) → AreIdentifiers is_build_identifier u → IsBuild (43 ∷ u)

-- what may stand behind three parts, and the pre-release in it
pub data IsTail : List ℕ → List ℕ → Type 0 where
  bare : (t : List ℕ) → IsBuild t → IsTail t []
  pre : (p t : List ℕ) → AreIdentifiers is_pre_identifier p → IsBuild t → IsTail (45 ∷ (p ++ t)) p

-- one to three parts joined by dots, and what they name
pub data IsPartial : List ℕ → Named → Type 0 where
  one : (t : List ℕ) (a : Option ℕ) → IsPart t a → IsPartial t (named a None None [])
  two : (t u : List ℕ) (a b : Option ℕ) → IsPart t a → IsPart u b → IsPartial (t ++ 46 ∷ u) (named a b None [])
  three : (t u w s pre : List ℕ) (a b c : Option ℕ) → IsPart t a → IsPart u b → IsPart w c → IsTail s pre
      → IsPartial (t ++ 46 ∷ (u ++ 46 ∷ (w ++ s))) (named a b c pre)

-- an end of `A - B`: any number of `v` and `=`, and a partial version
pub data IsEnd : List ℕ → Named → Type 0 where
  end : (l t : List ℕ) (n : Named) → list_all is_lead l ≡ true → IsPartial t n → IsEnd (l ++ t) n

-- the operators
pub data IsSign : List ℕ → Sign → Type 0 where
  absent : IsSign [] sign.Exact
  equal : IsSign (61 ∷ []) sign.Exact
  less : IsSign (60 ∷ []) sign.Less
  at_most : IsSign (60 ∷ 61 ∷ []) sign.AtMost
  greater : IsSign (62 ∷ []) sign.Greater
  at_least : IsSign (62 ∷ 61 ∷ []) sign.AtLeast
  tilde : IsSign (126 ∷ []) sign.Tilde
  tilde_greater : IsSign (126 ∷ 62 ∷ []) sign.Tilde
  caret : IsSign (94 ∷ []) sign.Caret

-- whether an operator is `<` or `>`, with which a `=` right behind it makes one operator
abbrev pub may_join : Sign → Bool
may_join sign.Less = true
may_join sign.Greater = true
may_join s = false

-- an operator, spaces, and what stands for an end of `A - B`
pub data IsComparator : List ℕ → Sign → Named → Type 0 where
  comparator : (o s t : List ℕ) (x : Sign) (n : Named) → IsSign o x → AreSpaces s → IsEnd t n
      → (may_join x && starts_with (λ b. b == 61) (s ++ t)) ≡ false → IsComparator (o ++ (s ++ t)) x n

-- comparators with spaces between them: how many they are, and their limits
pub data AreComparators : List ℕ → ℕ → List Limit → Type 0 where
  one : (t : List ℕ) (x : Sign) (n : Named) → IsComparator t x n → all_fit (limits x n) ≡ true → AreComparators t 1 (limits x n)
  more : (t s u : List ℕ) (x : Sign) (n : Named) (k : ℕ) (ls : List Limit) → IsComparator t x n → all_fit (limits x n) ≡ true
      → AreGaps s → AreComparators u k ls → AreComparators (t ++ (s ++ u)) (1 + k) (limits x n ++ ls)

-- a range without the spaces around it: empty, comparators, or `A - B`, which counts as two
pub data IsRange : List ℕ → ℕ → List Limit → Type 0 where
  empty : IsRange [] 0 (or_any [])
  comparators : (t : List ℕ) (k : ℕ) (ls : List Limit) → AreComparators t k ls → IsRange t k ls
  hyphen : (a s r b : List ℕ) (low high : Named) → IsEnd a low → AreGaps s → AreGaps r → IsEnd b high → all_fit (between low high) ≡ true
      → IsRange (a ++ (s ++ 45 ∷ (r ++ b))) 2 (between low high)

-- ranges joined by `||`, each with spaces around it
pub data AreRanges : List ℕ → ℕ → List (List Limit) → Type 0 where
  one : (s t r : List ℕ) (k : ℕ) (ls : List Limit) → AreSpaces s → IsRange t k ls → AreSpaces r → AreRanges (s ++ (t ++ r)) k (ls ∷ [])
  more : (s t r u : List ℕ) (k m : ℕ) (ls : List Limit) (lss : List (List Limit)) → AreSpaces s → IsRange t k ls → AreSpaces r
      → AreRanges u m lss → AreRanges (s ++ (t ++ (r ++ 124 ∷ 124 ∷ u))) (k + m) (ls ∷ lss)

-- a range set: at most 1,024 comparators in all
pub record Spells (text : List ℕ) (ranges : List (List Limit)) : Type 0 where
  pub count : ℕ
  pub read : AreRanges text count ranges
  pub few : count ≤ 1024
