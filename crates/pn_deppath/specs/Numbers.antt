-- The ordinals that were given so far.
use Rattle.std.specs.Prelude.{◌≡◌, ℕ, zero, suc, ◌==◌, List, length, Some, None, unwrap_or, if◌then◌else◌, bytes_eq, String}
use Rattle.std.specs.BTreeMap.{BTreeMap, get_by_text}
use Rattle.pn_deppath.specs.Folders.{count_of, free_from, is_taken, ordinal, with_ordinal}

-- the last ordinal of a name
abbrev pub last_of : {A : Type 0} → BTreeMap (String A) ℕ → List ℕ → ℕ
last_of m name = unwrap_or (get_by_text m name) 0

-- the ordinal after that one, and the name with it: the first has none
abbrev pub number_after : List (List ℕ) → List ℕ → ℕ → ℕ
number_after taken name last = if last == 0 then 1 else free_from taken name (length taken) (suc last)

abbrev pub name_after : List (List ℕ) → List ℕ → ℕ → List ℕ
name_after taken name last = if last == 0 then name else with_ordinal name (number_after taken name last)

-- the last ordinal where a name was given that many times
abbrev pub last_after : List (List ℕ) → List ℕ → ℕ → ℕ
last_after taken name zero = 0
last_after taken name (suc k) = ordinal taken name k

-- how many of these dep paths have a name
abbrev pub given : (List ℕ → List ℕ) → List (List ℕ) → List ℕ → ℕ
given named paths name = count_of (λ x. bytes_eq (named x) name) paths

-- each name that is taken has a last ordinal
abbrev pub HasNumbers : {A : Type 0} → BTreeMap (String A) ℕ → List (List ℕ) → (List ℕ → ℕ) → Type 0
HasNumbers m taken last = (q : List ℕ) → get_by_text m q ≡ (if is_taken taken q then Some (last q) else None)

-- one name has another last ordinal
abbrev pub Numbered : {A : Type 0} → BTreeMap (String A) ℕ → BTreeMap (String A) ℕ → List ℕ → ℕ → Type 0
Numbered old new name n = (q : List ℕ) → get_by_text new q ≡ (if bytes_eq name q then Some n else get_by_text old q)
