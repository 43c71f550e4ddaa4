-- The folders' names of dep paths, one after the other.
use Rattle.std.proofs.Common.{◌≡◌, ◌≢◌, ◌<◌, ◌^◌, ℕ, zero, suc, ◌+◌, List, [], ◌∷◌, length, get_or, map, take, Bool, true, false, cond, refl, sym, ap, ◌∙◌, subst, inl, inr, arith, Some, None}
use Rattle.std.specs.Prelude.{◌&&◌, ◌||◌, bytes_eq, String, is_some, Option}
use Rattle.std.specs.BTreeMap.{BTreeMap, get_by_text}
use Rattle.std.specs.List.{All, IsDistinct, list_all}
use Rattle.std.specs.List.Sorted.{IsPermutation, IsSorted}
use Rattle.std.specs.Ordering.{nat_cmp}
use Rattle.std.specs.Cmp.Lexicographic.{slice_cmp}
use Rattle.std.specs.Map.{update}
use Rattle.std.proofs.lemmas.Bool.{cases_Bool, cases_eq, false_from_ne_true}
use Rattle.std.proofs.lemmas.List.{get_or-map, get_or_default, length-map, length-take-le}
use Rattle.std.proofs.lemmas.List.Elements.{Contains-get_or}
use Rattle.std.proofs.lemmas.List.Sorted.{Contains-permutation, IsPermutation-sym, length_permutation}
use Rattle.std.proofs.lemmas.Map.Keys.{IsDistinct-from_apart, IsDistinct-IsPermutation, apart_from_distinct}
use Rattle.pn_text.proofs.Bools.{and_left, and_right}
use Rattle.pn_deppath.specs.Folders.{earlier, folder_name, is_ascii, is_earlier, is_taken, numbered, plain_name}
use Rattle.pn_deppath.specs.Numbers.{given, HasNumbers, last_after, name_after}
use Rattle.pn_deppath.specs.Paths.{is_dep_path}
use Rattle.pn_deppath.proofs.PathLemmas.{law}
use Rattle.pn_deppath.proofs.CountLemmas.{count-permutation, count_before, rises}
use Rattle.pn_deppath.proofs.NumberLemmas.{last_small, name_next}
use Rattle.pn_deppath.proofs.NumberingLemmas.{count_all, count_le, folders_apart, itself, same}

flips : (x y : List ℕ) → bytes_eq x y ≡ bytes_eq y x
flips x y = elim (cases_Bool (bytes_eq x y)) [
  | inl e ↦ e ∙ sym (ap (λ (z : List ℕ). bytes_eq z x) (sym (same x y e)) ∙ itself x)
  | inr e ↦ e ∙ sym (false_from_ne_true (bytes_eq y x) (λ t. absurd (let f = ap (bytes_eq x) (same y x t) in let o = itself x in cc (e, f, o))))
]

-- a name that some of these have
pub name_taken : (named : List ℕ → List ℕ) (xs : List (List ℕ)) (k : ℕ) → k < length xs → is_taken (map named xs) (named (get_or xs k [])) ≡ true
name_taken named [] k h = absurd (omega arith)
name_taken named (x ∷ xs) zero h = ap (λ (b : Bool). b || is_taken (map named xs) (named x)) (itself (named x))
name_taken named (x ∷ xs) (suc k) h = elim (bytes_eq (named x) (named (get_or xs k []))) as (λ o. (o || is_taken (map named xs) (named (get_or xs k []))) ≡ true) [
  | true ↦ refl
  | false ↦ name_taken named xs k (omega arith)
]

-- all of these are named, up to a place
abbrev pub AreNamed : {A : Type 0} → BTreeMap (String A) (List ℕ) → List (List ℕ) → List (List ℕ) → ℕ → Type 0
AreNamed m paths xs i = (k : ℕ) → k < i → get_by_text m (get_or xs k []) ≡ Some (folder_name paths (get_or xs k []))

module _ (paths rising : List (List ℕ)) (short : length paths < 2 ^ 32) (distinct : IsDistinct bytes_eq paths) (perm : IsPermutation paths rising) (sorted : IsSorted (slice_cmp nat_cmp) rising) where
  pub long : length rising ≡ length paths
  long = length_permutation paths rising perm

  pub still_distinct : IsDistinct bytes_eq rising
  still_distinct = IsDistinct-IsPermutation bytes_eq flips paths rising perm distinct

  -- the ordinal of the dep path at a place
  pub number_at : (i : ℕ) → i < length rising → given plain_name (take i rising) (plain_name (get_or rising i [])) ≡ earlier plain_name paths (get_or rising i [])
  number_at i within =
      sym (count_before plain_name rising (rises rising sorted still_distinct) i within)
      ∙ count-permutation (is_earlier plain_name (get_or rising i [])) paths rising perm

  -- its name is one of those that are taken
  pub taken_at : (i : ℕ) → i < length rising → is_taken (map plain_name paths) (plain_name (get_or rising i [])) ≡ true
  taken_at i within =
      let c = Contains-permutation rising paths (get_or rising i []) (IsPermutation-sym paths rising perm) (Contains-get_or rising i [] within) in
      ap (λ (p : List ℕ). is_taken (map plain_name paths) (plain_name p)) (sym (get_or_default paths c.0 [] (get_or rising i []) c.1 ∙ c.2)) ∙ name_taken plain_name paths c.0 c.1

  pub few_given : (i : ℕ) → i < length rising → (q : List ℕ) → given plain_name (take i rising) q < length (map plain_name paths)
  few_given i within q =
      let le = count_le (λ x. bytes_eq (plain_name x) q) (λ x. true) (λ x e. refl) (take i rising) in
      omega (arith, le, count_all (take i rising), length-take-le i rising (omega (arith, within)), within, long, length-map paths plain_name)

  -- the name that is given next is its folder's
  pub named_at : (i : ℕ) → i < length rising → (last : ℕ) → last ≡ last_after (map plain_name paths) (plain_name (get_or rising i [])) (given plain_name (take i rising) (plain_name (get_or rising i [])))
      → name_after (map plain_name paths) (plain_name (get_or rising i [])) last ≡ folder_name paths (get_or rising i [])
  named_at i within last is =
      let q = plain_name (get_or rising i []) in
      ap (name_after (map plain_name paths) q) is ∙ name_next (map plain_name paths) q (given plain_name (take i rising) q)
      ∙ ap (numbered (map plain_name paths) q) (number_at i within)

  pub small_at : (i : ℕ) → i < length rising → (last : ℕ) → last ≡ last_after (map plain_name paths) (plain_name (get_or rising i [])) (given plain_name (take i rising) (plain_name (get_or rising i [])))
      → last + 1 + length paths < 2 ^ 64
  small_at i within last is =
      let q = plain_name (get_or rising i []) in
      let n : length (map plain_name paths) ≡ length paths = length-map paths plain_name in
      let s = last_small (map plain_name paths) q (given plain_name (take i rising) q) (few_given i within q) (omega (arith, n, short)) in
      omega (arith, s, n, is)

  -- where all are named, each of the dep paths is
  pub all_named : {A : Type 0} (m : BTreeMap (String A) (List ℕ)) → AreNamed m paths rising (length rising) → All (λ p. get_by_text m p ≡ Some (folder_name paths p)) paths
  all_named m h = λ k d lt.
      let c = Contains-permutation paths rising (get_or paths k d) perm (Contains-get_or paths k d lt) in
      let is : get_or rising c.0 [] ≡ get_or paths k d = get_or_default rising c.0 [] (get_or paths k d) c.1 ∙ c.2 in
      subst (λ (p : List ℕ). get_by_text m p ≡ Some (folder_name paths p)) is (h c.0 c.1)

-- no two names are the same
pub names_distinct : (paths : List (List ℕ)) → length paths < 2 ^ 32 → IsDistinct bytes_eq paths → IsDistinct bytes_eq (map (folder_name paths) paths)
names_distinct paths short distinct = IsDistinct-from_apart bytes_eq (map (folder_name paths) paths) (λ i j d less within.
    let inside : j < length paths = omega (arith, within, length-map paths (folder_name paths)) in
    let low : i < length paths = omega (arith, inside, less) in
    let apart = apart_from_distinct bytes_eq paths i j [] distinct less inside in
    let other : get_or paths i [] ≢ get_or paths j [] = λ e. absurd (let f = ap (λ (z : List ℕ). bytes_eq z (get_or paths j [])) e in let o = itself (get_or paths j []) in cc (f, o, apart)) in
    let names = folders_apart plain_name paths (get_or paths i []) (get_or paths j []) short (Contains-get_or paths i [] low) (Contains-get_or paths j [] inside) other in
    false_from_ne_true (bytes_eq (get_or (map (folder_name paths) paths) i d) (get_or (map (folder_name paths) paths) j d)) (λ t. names (
    sym (get_or-map (folder_name paths) paths i [] d low) ∙ same (get_or (map (folder_name paths) paths) i d) (get_or (map (folder_name paths) paths) j d) t ∙ get_or-map (folder_name paths) paths j [] d inside)))

-- ---- tests of lists

pub all_ascii : (paths : List (List ℕ)) (k : ℕ) → list_all (list_all is_ascii) paths ≡ true → k < length paths → list_all is_ascii (get_or paths k []) ≡ true
all_ascii [] k h lt = absurd (omega arith)
all_ascii (p ∷ ps) zero h lt = and_left (list_all is_ascii p) (list_all (list_all is_ascii) ps) h
all_ascii (p ∷ ps) (suc k) h lt = all_ascii ps k (and_right (list_all is_ascii p) (list_all (list_all is_ascii) ps) h) (omega arith)

pub sorted_ascii : (paths rising : List (List ℕ)) → IsPermutation paths rising → list_all (list_all is_ascii) paths ≡ true → (i : ℕ) → i < length rising → list_all is_ascii (get_or rising i []) ≡ true
sorted_ascii paths rising perm h i within =
    let c = Contains-permutation rising paths (get_or rising i []) (IsPermutation-sym paths rising perm) (Contains-get_or rising i [] within) in
    subst (λ (p : List ℕ). list_all is_ascii p ≡ true) (get_or_default paths c.0 [] (get_or rising i []) c.1 ∙ c.2) (all_ascii paths c.0 h c.1)

-- the sorted dep paths, wherever they are lent
pub lent_permutation : (paths copied rising xs : List (List ℕ)) → copied ≡ paths → IsPermutation copied rising → xs ≡ rising → IsPermutation paths xs
lent_permutation paths copied rising xs e p f =
    subst (λ (t : List (List ℕ)). IsPermutation paths t) (sym f) (subst (λ (t : List (List ℕ)). IsPermutation t rising) e p)

pub lent_sorted : (rising xs : List (List ℕ)) → IsSorted (slice_cmp nat_cmp) rising → xs ≡ rising → IsSorted (slice_cmp nat_cmp) xs
lent_sorted rising xs s f = subst (λ (t : List (List ℕ)). IsSorted (slice_cmp nat_cmp) t) (sym f) s

-- ---- a loop's step

pub has_some : {A : Type 0} (m : BTreeMap (String A) ℕ) (taken : List (List ℕ)) (last : List ℕ → ℕ) → HasNumbers m taken last → (q : List ℕ) → is_some (get_by_text m q) ≡ is_taken taken q
has_some m taken last h q = ap (λ (o : Option ℕ). is_some o) (h q) ∙ found (is_taken taken q) where
  found : (b : Bool) → is_some (cond b (Some (last q)) None) ≡ b
  found true = refl
  found false = refl

pub named_more : {A : Type 0} (m m' : BTreeMap (String A) (List ℕ)) (paths xs : List (List ℕ)) (i : ℕ) (key name : List ℕ) → AreNamed m paths xs i → key ≡ get_or xs i [] → name ≡ folder_name paths (get_or xs i [])
    → ((q : List ℕ) → get_by_text m' q ≡ update bytes_eq (get_by_text m) key (Some name) q) → AreNamed m' paths xs (i + 1)
named_more m m' paths xs i key name h at is step k lt = elim (cases_Bool (bytes_eq key (get_or xs k []))) [
  | inl e ↦
      let own : get_or xs i [] ≡ get_or xs k [] = sym at ∙ same key (get_or xs k []) e in
      step (get_or xs k []) ∙ ap (λ (b : Bool). cond b (Some name) (get_by_text m (get_or xs k []))) e ∙ ap Some is ∙ ap (λ (p : List ℕ). Some (folder_name paths p)) own
  | inr e ↦ step (get_or xs k []) ∙ ap (λ (b : Bool). cond b (Some name) (get_by_text m (get_or xs k []))) e ∙ (elim (cases_eq k i) [
    | inl here ↦ absurd (let own : key ≡ get_or xs k [] = at ∙ ap (λ (n : ℕ). get_or xs n []) (sym here) in let f = ap (λ (z : List ℕ). bytes_eq z (get_or xs k [])) own in let o = itself (get_or xs k []) in cc (e, f, o))
    | inr other ↦ h k (below k i lt other)
  ])
] where
  below : (k i : ℕ) → k < i + 1 → k ≢ i → k < i
  below k i lt ne = omega (arith, lt, ne)

-- ---- one dep path

pub one_ascii : (path text : List ℕ) (xs : List (List ℕ)) → is_dep_path path ≡ true → text ≡ path → xs ≡ text ∷ [] → list_all (list_all is_ascii) xs ≡ true
one_ascii path text xs is e f =
    ap (list_all (list_all is_ascii)) f ∙ ap (λ (t : List ℕ). list_all is_ascii t && true) e ∙ ap (λ (b : Bool). b && true) (law.ascii path is)

pub one_distinct : (text : List ℕ) (xs : List (List ℕ)) → xs ≡ text ∷ [] → IsDistinct bytes_eq xs
one_distinct text xs f = subst (λ (t : List (List ℕ)). IsDistinct bytes_eq t) (sym f)
    (IsDistinct-from_apart bytes_eq (text ∷ []) (λ i j d less within. absurd (omega (arith, less, within))))
