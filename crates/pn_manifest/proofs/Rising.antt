-- Names in byte order, each once.
use Rattle.std.proofs.Common.{◌≡◌, ℕ, List, [], ◌∷◌, String, Global, string_bytes, string_cmp, nat_cmp, Less, true, false, Bool}
use Rattle.std.specs.Prelude.{if◌then◌else◌}
use Rattle.std.specs.Cmp.Lexicographic.{slice_cmp}
use Rattle.std.specs.List.{AllByRecursion}
use Rattle.std.specs.List.Sorted.{IsStrictlySortedBy}
use Rattle.std.specs.Map.{keys_of}
use Rattle.serde_json.specs.Data.{Data, null, boolean, number, string, array, object}
use Rattle.serde_json.specs.View.{view, members_view}
use Rattle.serde_json.specs.declared.value.Value.{Value}
use Rattle.pn_manifest.specs.TextMaps.{pairs, pair_with}
use Rattle.pn_manifest.specs.FlagMaps.{flagged, has_flag}
use Rattle.pn_manifest.specs.Said.{AreRising}
use Rattle.pn_manifest.specs.Pairs.{Pair, names, IsRising}

pub rising_nil : IsRising []
unfolding IsStrictlySortedBy
rising_nil = tt

pub rising_one : (e : Pair) → IsRising (e ∷ [])
unfolding IsStrictlySortedBy
rising_one e = (tt, tt)

pub all_with : (P : List ℕ → Type 0) (k : List ℕ) (d : Data) (rest : List Pair) → P k → AllByRecursion P (names rest) → AllByRecursion P (names (pair_with k d rest))
all_with P k null rest p h = h
all_with P k (boolean b) rest p h = h
all_with P k (number n) rest p h = h
all_with P k (string s) rest p h = (p, h)
all_with P k (array ds) rest p h = h
all_with P k (object ms) rest p h = h

all_pairs : (P : List ℕ → Type 0) (es : List (String Global × Value)) → AllByRecursion (λ y. P (string_bytes y)) (keys_of es) → AllByRecursion P (names (pairs (members_view es)))
all_pairs P [] h = tt
all_pairs P (e ∷ es) h = all_with P (string_bytes e.0) (view e.1) (pairs (members_view es)) h.0 (all_pairs P es h.1)

pub rising_with : (k : List ℕ) (d : Data) (rest : List Pair) → AllByRecursion (λ y. slice_cmp nat_cmp k y ≡ Less) (names rest) → IsRising rest → IsRising (pair_with k d rest)
unfolding IsStrictlySortedBy
rising_with k null rest a h = h
rising_with k (boolean b) rest a h = h
rising_with k (number n) rest a h = h
rising_with k (string s) rest a h = (a, h)
rising_with k (array ds) rest a h = h
rising_with k (object ms) rest a h = h

-- the names in an object are its keys, some left out
pub rising_pairs : (es : List (String Global × Value)) → IsStrictlySortedBy string_cmp (keys_of es) → IsRising (pairs (members_view es))
unfolding IsStrictlySortedBy
rising_pairs [] h = tt
rising_pairs (e ∷ es) h =
    rising_with (string_bytes e.0) (view e.1) (pairs (members_view es)) (all_pairs (λ y. slice_cmp nat_cmp (string_bytes e.0) y ≡ Less) es h.0) (rising_pairs es h.1)

pub all_if : (P : List ℕ → Type 0) (b : Bool) (k : List ℕ) (rest : List (List ℕ)) → P k → AllByRecursion P rest → AllByRecursion P (if b then k ∷ rest else rest)
all_if P true k rest p h = (p, h)
all_if P false k rest p h = h

all_flagged : (P : List ℕ → Type 0) (flag : List ℕ) (es : List (String Global × Value)) → AllByRecursion (λ y. P (string_bytes y)) (keys_of es) → AllByRecursion P (flagged flag (members_view es))
all_flagged P flag [] h = tt
all_flagged P flag (e ∷ es) h = all_if P (has_flag flag (view e.1)) (string_bytes e.0) (flagged flag (members_view es)) h.0 (all_flagged P flag es h.1)

pub rising_if : (b : Bool) (k : List ℕ) (rest : List (List ℕ)) → AllByRecursion (λ y. slice_cmp nat_cmp k y ≡ Less) rest → AreRising rest → AreRising (if b then k ∷ rest else rest)
unfolding IsStrictlySortedBy
rising_if true k rest a h = (a, h)
rising_if false k rest a h = h

-- the names in an object whose flag is true are keys of it
pub rising_flagged : (flag : List ℕ) (es : List (String Global × Value)) → IsStrictlySortedBy string_cmp (keys_of es) → AreRising (flagged flag (members_view es))
unfolding IsStrictlySortedBy
rising_flagged flag [] h = tt
rising_flagged flag (e ∷ es) h =
    rising_if (has_flag flag (view e.1)) (string_bytes e.0) (flagged flag (members_view es)) (all_flagged (λ y. slice_cmp nat_cmp (string_bytes e.0) y ≡ Less) flag es h.0) (rising_flagged flag es h.1)
