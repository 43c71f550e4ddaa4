-- The keys of a map that is being read.
use Rattle.std.specs.Prelude.{◌≡◌, ℕ, List, [], ◌∷◌, Bool, true, false, ◌&&◌}
use Rattle.std.specs.BTreeSet.{BTreeSet, contains}
use Rattle.std.specs.Cmp.Lexicographic.{slice_cmp}
use Rattle.std.specs.Ordering.{nat_cmp, is_lt}
use Rattle.pn_yaml.specs.declared.keys.Keys.{Keys}
use Rattle.pn_yaml.specs.declared.node.Node.{Node}
use Rattle.pn_yaml.specs.Data.{is_among}

-- the keys of members, the last one first, before these
abbrev pub seen_onto : List (List ℕ) → List (List ℕ × Node) → List (List ℕ)
seen_onto seen [] = seen
seen_onto seen (m ∷ ms) = seen_onto (m.0 ∷ seen) ms

-- the keys of members, the last one first
abbrev pub seen_of : List (List ℕ × Node) → List (List ℕ)
seen_of ms = seen_onto [] ms

-- the key is above the last one
abbrev pub rises : List (List ℕ) → List ℕ → Bool
rises [] k = true
rises (l ∷ ls) k = is_lt (slice_cmp nat_cmp l k)

-- each key is above the one before it
abbrev pub all_rise : List (List ℕ) → Bool
all_rise [] = true
all_rise (k ∷ ks) = rises ks k && all_rise ks

-- a set of these keys
abbrev pub HasKeys : BTreeSet (List ℕ) → List (List ℕ) → Type 0
HasKeys set seen = (k : List ℕ) → contains (slice_cmp nat_cmp) set k ≡ is_among k seen

-- they tell which of these keys there are
pub record AreKeys (keys : Keys) (seen : List (List ℕ)) : Type 0 where
  pub rising : keys.rise ≡ true → all_rise seen ≡ true
  pub copied : keys.rise ≡ false → HasKeys keys.copies seen
