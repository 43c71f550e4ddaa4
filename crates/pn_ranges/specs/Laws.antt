-- Laws of ranges in the subject's own words.
use Rattle.std.specs.Prelude.{◌≡◌, ◌≢◌, ◌↔◌, ◌⊎◌, ◌<◌, ◌≤◌, ℕ, ◌||◌, true, false, List, [], ◌∷◌, ◌++◌}
use Rattle.semver.specs.Parse.{Parts}
use Rattle.pn_ranges.specs.declared.comparator.Sign.TheVariants as sign
use Rattle.pn_ranges.specs.Limits.{Limit, is_release, meets_all, satisfies}
use Rattle.pn_ranges.specs.Table.{between, full, limits}

-- a version's numbers aren't below these
abbrev pub IsNotBelow : Parts → ℕ → ℕ → ℕ → Type 0
IsNotBelow v a b c = (a < v.0) ⊎ ((v.0 ≡ a) × ((b < v.1) ⊎ ((v.1 ≡ b) × (c ≤ v.2))))

-- the left-most of these numbers that isn't zero is the version's too, and so are the zeros before it
pub record KeepsLeftmost (v : Parts) (a b c : ℕ) : Type 0 where
  pub major : v.0 ≡ a
  pub minor : a ≡ 0 → v.1 ≡ b
  pub patch : a ≡ 0 → b ≡ 0 → v.2 ≡ c

abbrev pub CaretLaw : Type 0
CaretLaw = (v : Parts) (a b c : ℕ) → is_release v ≡ true
    → (meets_all v (limits sign.Caret (full a b c [])) ≡ true) ↔ (IsNotBelow v a b c × KeepsLeftmost v a b c)

abbrev pub HyphenLaw : Type 0
HyphenLaw = (a b c x y z : ℕ) (p q : List ℕ)
    → between (full a b c p) (full x y z q) ≡ limits sign.AtLeast (full a b c p) ++ limits sign.AtMost (full x y z q)

abbrev pub UnionLaw : Type 0
UnionLaw = (v : Parts) (ls : List Limit) (rs ss : List (List Limit))
    → (satisfies v (ls ∷ []) ≡ meets_all v ls) × (satisfies v (rs ++ ss) ≡ (satisfies v rs || satisfies v ss))

-- a limit of a list that has a pre-release and the version's numbers
pub record NamesPre (v : Parts) (ls : List Limit) : Type 0 where
  pub before : List Limit
  pub limit : Limit
  pub behind : List Limit
  pub among : ls ≡ before ++ limit ∷ behind
  pub pre : limit.pre ≢ []
  pub major : limit.major ≡ v.0
  pub minor : limit.minor ≡ v.1
  pub patch : limit.patch ≡ v.2

abbrev pub PreLaw : Type 0
PreLaw = (v : Parts) (ls : List Limit) → is_release v ≡ false → meets_all v ls ≡ true → NamesPre v ls
