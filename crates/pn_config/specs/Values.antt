-- What values say: texts, truth values, lists of texts, and texts under texts.
use Rattle.std.specs.Prelude.{ℕ, List, [], ◌∷◌, Bool, true, false, Option, Some, None, option_map, if◌then◌else◌, codes}
use Rattle.std.specs.Str.{bytes_eq}
use Rattle.pn_yaml.specs.Data.{Data, scalar, list, map, Items, no_items, item, Members, no_members, member}

-- a text under a text
abbrev pub Pair : Type 0
Pair = List ℕ × List ℕ

abbrev pub text_of : Data → Option (List ℕ)
text_of (scalar text plain) = Some text
text_of (list ds) = None
text_of (map ms) = None

abbrev pub if_filled : List ℕ → Option (List ℕ)
if_filled [] = None
if_filled (b ∷ t) = Some (b ∷ t)

-- a text other than the empty one
abbrev pub filled_text : Data → Option (List ℕ)
filled_text (scalar text plain) = if_filled text
filled_text (list ds) = None
filled_text (map ms) = None

abbrev pub truth : List ℕ → Option Bool
truth text = if bytes_eq text (codes "true") then Some true else (if bytes_eq text (codes "false") then Some false else None)

-- `true` or `false` without quotes
abbrev pub flag_of : Data → Option Bool
flag_of (scalar text true) = truth text
flag_of (scalar text false) = None
flag_of (list ds) = None
flag_of (map ms) = None

-- one before others, where there are both
abbrev pub before : {A : Type 0} → Option A → Option (List A) → Option (List A)
before None rest = None
before (Some x) rest = option_map (λ xs. x ∷ xs) rest

abbrev pub item_texts : Items → Option (List (List ℕ))
item_texts no_items = Some []
item_texts (item d ds) = before (text_of d) (item_texts ds)

-- a list of texts
abbrev pub texts_of : Data → Option (List (List ℕ))
texts_of (scalar text plain) = None
texts_of (list ds) = item_texts ds
texts_of (map ms) = None

abbrev pub member_pairs : Members → Option (List Pair)
member_pairs no_members = Some []
member_pairs (member k d ms) = before (option_map (λ t. (k, t)) (text_of d)) (member_pairs ms)

-- a map of texts, in the order of the file
abbrev pub pairs_of : Data → Option (List Pair)
pairs_of (scalar text plain) = None
pairs_of (list ds) = None
pairs_of (map ms) = member_pairs ms

-- whether a value is this text, where there is one that it has to be
abbrev pub is_allowed : Option (List ℕ) → Data → Bool
is_allowed None d = true
is_allowed (Some t) (scalar text plain) = bytes_eq text t
is_allowed (Some t) (list ds) = false
is_allowed (Some t) (map ms) = false
