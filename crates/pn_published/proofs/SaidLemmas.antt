-- What the file of tags says, read member by member.
use Rattle.std.proofs.Common.{◌≡◌, ◌++◌, ℕ, List, [], ◌∷◌, Option, Some, None, option_map, refl, ap, sym, subst, ◌∙◌, append_assoc, map, String, Global, string_bytes, string_cmp, nat_cmp, Less}
use Rattle.std.specs.Cmp.Lexicographic.{slice_cmp}
use Rattle.std.specs.List.{AllByRecursion}
use Rattle.std.specs.List.Sorted.{IsStrictlySortedBy}
use Rattle.std.specs.Map.{keys_of}
use Rattle.semver.specs.Parse.{Parts}
use Rattle.serde_json.specs.Data.{Data, null, boolean, number, string, array, object}
use Rattle.serde_json.specs.View.{view, members_view}
use Rattle.serde_json.specs.declared.value.Value.{Value}
use Rattle.pn_text.specs.Ids.{parts_text}
use Rattle.pn_published.specs.Tags.{Said, Tagged, AreRising, AreRisingTags, said_of, said_with, placed, place_by, tags_of}

-- the tags that were read, and those that are left
abbrev pub onto_said : List Said → Option (List Said) → Option (List Said)
onto_said before None = None
onto_said before (Some rest) = Some (before ++ rest)

pub onto_one : (before : List Said) (s : Said) (rest : Option (List Said)) → onto_said (before ++ s ∷ []) rest ≡ onto_said before (option_map (λ (said : List Said). s ∷ said) rest)
onto_one before s None = refl
onto_one before s (Some rest) = ap Some (append_assoc before (s ∷ []) rest)

pub onto_none : (rest : Option (List Said)) → onto_said [] rest ≡ rest
onto_none None = refl
onto_none (Some rest) = refl

abbrev said_names : List Said → List (List ℕ)
said_names ts = map (λ (t : Said). t.0) ts

abbrev tag_names : List Tagged → List (List ℕ)
tag_names ts = map (λ (t : Tagged). t.0) ts

-- the first member, and those behind it
record HasOne (k : List ℕ) (o : Option (List Said)) (xs : List Said) : Type 0 where
  text : List ℕ
  rest : List Said
  left : o ≡ Some rest
  is : xs ≡ (k, text) ∷ rest

none_some : {xs : List Said} → None ≡ Some xs → ⊥
none_some e = cc e

one_text : (k s : List ℕ) (o : Option (List Said)) (xs : List Said) → said_with k (string s) o ≡ Some xs → HasOne k o xs
one_text k s None xs h = absurd (none_some h)
one_text k s (Some rest) xs h = record { text = s; rest = rest; left = refl; is = cc h }

has_one : (k : List ℕ) (d : Data) (o : Option (List Said)) (xs : List Said) → said_with k d o ≡ Some xs → HasOne k o xs
has_one k null o xs h = absurd (none_some h)
has_one k (boolean b) o xs h = absurd (none_some h)
has_one k (number n) o xs h = absurd (none_some h)
has_one k (string s) o xs h = one_text k s o xs h
has_one k (array ds) o xs h = absurd (none_some h)
has_one k (object ms) o xs h = absurd (none_some h)

-- the tags are the object's keys
keys_said : (es : List (String Global × Value)) (xs : List Said) → said_of (members_view es) ≡ Some xs → said_names xs ≡ map string_bytes (keys_of es)
keys_said [] xs h = let none : [] ≡ xs = cc h in sym (ap said_names none)
keys_said (e ∷ es) xs h =
    let one = has_one (string_bytes e.0) (view e.1) (said_of (members_view es)) xs h in
    ap said_names one.is ∙ ap (λ r. string_bytes e.0 ∷ r) (keys_said es one.rest one.left)

keys_below : (x : List ℕ) (ks : List (String Global)) → AllByRecursion (λ y. slice_cmp nat_cmp x (string_bytes y) ≡ Less) ks → AllByRecursion (λ y. slice_cmp nat_cmp x y ≡ Less) (map string_bytes ks)
keys_below x [] h = tt
keys_below x (k ∷ ks) h = (h.0, keys_below x ks h.1)

keys_rise : (ks : List (String Global)) → IsStrictlySortedBy string_cmp ks → IsStrictlySortedBy (slice_cmp nat_cmp) (map string_bytes ks)
unfolding IsStrictlySortedBy
keys_rise [] h = tt
keys_rise (k ∷ ks) h = (keys_below (string_bytes k) ks h.0, keys_rise ks h.1)

pub said_rise : (es : List (String Global × Value)) (xs : List Said) → IsStrictlySortedBy string_cmp (keys_of es) → said_of (members_view es) ≡ Some xs → AreRising xs
said_rise es xs h is = subst (IsStrictlySortedBy (slice_cmp nat_cmp)) (sym (keys_said es xs is)) (keys_rise (keys_of es) h)

pub none_rise : AreRising []
unfolding IsStrictlySortedBy
none_rise = tt

placed_below : (x tag : List ℕ) (at : Option ℕ) (ts : List Tagged) → slice_cmp nat_cmp x tag ≡ Less → AllByRecursion (λ y. slice_cmp nat_cmp x y ≡ Less) (tag_names ts) → AllByRecursion (λ y. slice_cmp nat_cmp x y ≡ Less) (tag_names (placed tag at ts))
placed_below x tag None ts h k = k
placed_below x tag (Some i) ts h k = (h, k)

tags_below : (x : List ℕ) (vs : List Parts) (ss : List Said) → AllByRecursion (λ y. slice_cmp nat_cmp x y ≡ Less) (said_names ss) → AllByRecursion (λ y. slice_cmp nat_cmp x y ≡ Less) (tag_names (tags_of vs ss))
tags_below x vs [] h = tt
tags_below x vs (s ∷ ss) h = placed_below x s.0 (place_by vs (parts_text s.1)) (tags_of vs ss) h.0 (tags_below x vs ss h.1)

placed_rise : (tag : List ℕ) (at : Option ℕ) (ts : List Tagged) → AllByRecursion (λ y. slice_cmp nat_cmp tag y ≡ Less) (tag_names ts) → AreRisingTags ts → AreRisingTags (placed tag at ts)
unfolding IsStrictlySortedBy
placed_rise tag None ts h k = k
placed_rise tag (Some i) ts h k = (h, k)

pub tags_rise : (vs : List Parts) (ss : List Said) → AreRising ss → AreRisingTags (tags_of vs ss)
unfolding IsStrictlySortedBy
tags_rise vs [] h = tt
tags_rise vs (s ∷ ss) h = placed_rise s.0 (place_by vs (parts_text s.1)) (tags_of vs ss) (tags_below s.0 vs ss h.0) (tags_rise vs ss h.1)
