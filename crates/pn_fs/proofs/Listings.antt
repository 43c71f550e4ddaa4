-- Lemmas on the names of a folder's entries.
use Rattle.std.proofs.Common.{◌≡◌, ◌≢◌, ℕ, List, [], ◌∷◌, ◌++◌, refl, sym, ap, ◌∙◌, subst, Bool, true, false, Some, None, append_assoc, append-nil, inl, inr, arith, eq-eqb, zero, suc}
use Rattle.std.specs.Prelude.{String, IsTrue, ◌==◌, not, if◌then◌else◌, option_to_list}
use Rattle.std.specs.Option.{option_map}
use Rattle.std.specs.List.{All, AllByRecursion, Contains, filter}
use Rattle.std.specs.List.Sorted.{IsStrictlySortedBy}
use Rattle.std.specs.Map.{lookup, keys_of}
use Rattle.std.specs.declared.cmp.Ordering.TheVariants.{Less, Equal}
use Rattle.std.specs.Ordering.{nat_cmp, ordering_then, is_gt, is_le}
use Rattle.std.specs.Cmp.Lexicographic.{slice_cmp}
use Rattle.std.specs.String.{string_cmp, string_bytes}
use Rattle.std.specs.BTreeMap.{BTreeMap, get_by_text, IsOrdered, is_at}
use Rattle.std.specs.BTreeMap.Range.{entries_between, range_contains}
use Rattle.std.specs.declared.ops.Bound.TheVariants.{Included, Excluded}
use Rattle.std.specs.Cmp.Derive.{both_true}
use Rattle.std.specs.Cmp.{nat_cmp_is}
use Rattle.std.proofs.lemmas.Bool.{eqb-true}
use Rattle.std.proofs.lemmas.List.Kept.{IsStrictlySortedBy-filter}
use Rattle.std.proofs.lemmas.Map.Text.{is_eq-slice_cmp}
use Rattle.std.proofs.lemmas.Slice.Eq.{bytes_eq-Decides}
use Rattle.pn_text.proofs.Paths.{and_left}
use Rattle.std.proofs.lemmas.List.Elements.{Contains-append_right, Contains-append_cases, All-contains}
use Rattle.pn_text.specs.Path.{Path, is_part, is_path, text_below, path_text}
use Rattle.pn_fs.specs.Bodies.{entry_of}
use Rattle.pn_fs.specs.Nodes.{rooted}
use Rattle.pn_fs.specs.Calls.{IsListing}
use Rattle.pn_fs.specs.Names.{name_after}
use Rattle.pn_fs.specs.declared.body.Body.{Body}

-- the names behind a front, of the keys of entries
abbrev pub names_in : {A : Type 0} → List ℕ → List (String A × Body) → List (List ℕ)
names_in front [] = []
names_in front (e ∷ es) = option_to_list (name_after front (string_bytes e.0)) ++ names_in front es

-- behind its front a text has the name that the rest is
pub name_behind : (front x : List ℕ) → name_after front (front ++ x) ≡ name_after [] x
name_behind [] x = refl
name_behind (a ∷ front) x = ap (λ b. if b then name_after front (front ++ x) else None) (eq-eqb a a refl) ∙ name_behind front x

pub name_there : (front x : List ℕ) → IsTrue (is_part x) → name_after front (front ++ x) ≡ Some x
name_there front x h = name_behind front x ∙ ap (λ b. if b then Some x else None) h

name_here : (text x : List ℕ) → name_after [] text ≡ Some x → IsTrue (is_part x) × (text ≡ x)
name_here text x h = elim (is_part text) as (λ b. is_part text ≡ b → (if b then Some text else None) ≡ Some x → IsTrue (is_part x) × (text ≡ x)) [
  | true ↦ λ is e. let same : text ≡ x = cc in (subst (λ t. IsTrue (is_part t)) same is, same)
  | false ↦ λ is e. cc
] refl h

pub name_only : (front text x : List ℕ) → name_after front text ≡ Some x → IsTrue (is_part x) × (text ≡ front ++ x)
name_only [] text x h = name_here text x h
name_only (a ∷ front) [] x h = cc
name_only (a ∷ front) (b ∷ text) x h = elim (a == b) as (λ s. (a == b) ≡ s → (if s then name_after front text else None) ≡ Some x → IsTrue (is_part x) × (b ∷ text ≡ a ∷ front ++ x)) [
  | true ↦ λ is e. let r = name_only front text x e in (r.0, ap (λ c. c ∷ text) (sym (eqb-true a b is)) ∙ ap (λ t. a ∷ t) r.1)
  | false ↦ λ is e. cc
] refl h

-- what the test of a front says
pub name_found : (front text x : List ℕ) → text ≡ front ++ x → name_after [] x ≡ name_after front text
name_found front text x e = sym (ap (name_after front) e ∙ name_behind front x)

pub name_lacks : (front text : List ℕ) → ((rest : List ℕ) → text ≢ front ++ rest) → None ≡ name_after front text
name_lacks front text lacks = elim (name_after front text) as (λ o. name_after front text ≡ o → None ≡ o) [
  | None ↦ λ e. refl
  | Some x ↦ λ e. absurd (lacks x (name_only front text x e).1)
] refl

-- a front that two texts share doesn't count in their order
pub cmp_behind : (front x y : List ℕ) → slice_cmp nat_cmp (front ++ x) (front ++ y) ≡ slice_cmp nat_cmp x y
cmp_behind [] x y = refl
cmp_behind (a ∷ front) x y = ap (λ o. ordering_then o (slice_cmp nat_cmp (front ++ x) (front ++ y))) (sym (nat_cmp_is a a Equal refl)) ∙ cmp_behind front x y

only_one : (y x : List ℕ) → Contains (y ∷ []) x → y ≡ x
only_one y x (zero, l, e) = e
only_one y x (suc k, l, e) = absurd (omega (arith, l))

module _ {A : Type 0} (front : List ℕ) where
  after_all : (text x : List ℕ) (es : List (String A × Body)) → text ≡ front ++ x → AllByRecursion (λ k. slice_cmp nat_cmp text (string_bytes k) ≡ Less) (keys_of es)
      → AllByRecursion (λ y. slice_cmp nat_cmp x y ≡ Less) (names_in front es)
  after_all text x [] is h = tt
  after_all text x (e ∷ es) is h = elim (name_after front (string_bytes e.0)) as (λ o. name_after front (string_bytes e.0) ≡ o → AllByRecursion (λ y. slice_cmp nat_cmp x y ≡ Less) (option_to_list o ++ names_in front es)) [
    | None ↦ λ at. after_all text x es is h.1
    | Some y ↦ λ at. (
      sym (ap (λ t. slice_cmp nat_cmp t (string_bytes e.0)) is ∙ ap (slice_cmp nat_cmp (front ++ x)) (name_only front (string_bytes e.0) y at).1 ∙ cmp_behind front x y) ∙ h.0,
      after_all text x es is h.1,
    )
  ] refl

  pub names_rise : (es : List (String A × Body)) → IsStrictlySortedBy string_cmp (keys_of es) → IsStrictlySortedBy (slice_cmp nat_cmp) (names_in front es)
  unfolding IsStrictlySortedBy
  names_rise [] h = tt
  names_rise (e ∷ es) h = elim (name_after front (string_bytes e.0)) as (λ o. name_after front (string_bytes e.0) ≡ o → IsStrictlySortedBy (slice_cmp nat_cmp) (option_to_list o ++ names_in front es)) [
    | None ↦ λ at. names_rise es h.1
    | Some x ↦ λ at. (after_all (string_bytes e.0) x es (name_only front (string_bytes e.0) x at).1 h.0, names_rise es h.1)
  ] refl

  -- each name is an entry's
  pub name_from : (es : List (String A × Body)) (x : List ℕ) → Contains (names_in front es) x → (e : String A × Body) × Contains es e × (name_after front (string_bytes e.0) ≡ Some x)
  name_from [] x h = absurd (omega (arith, h.1))
  name_from (e ∷ es) x h = elim (name_after front (string_bytes e.0)) as (λ o. name_after front (string_bytes e.0) ≡ o → Contains (option_to_list o ++ names_in front es) x
      → (d : String A × Body) × Contains (e ∷ es) d × (name_after front (string_bytes d.0) ≡ Some x)) [
        | None ↦ λ at k. later (name_from es x k)
        | Some y ↦ λ at k. elim (Contains-append_cases (y ∷ []) (names_in front es) x k) [
          | inl one ↦ (e, (0, omega arith, refl), at ∙ ap Some (only_one y x one))
          | inr more ↦ later (name_from es x more)
        ]
      ] refl h where
        later : ((d : String A × Body) × Contains es d × (name_after front (string_bytes d.0) ≡ Some x)) → (d : String A × Body) × Contains (e ∷ es) d × (name_after front (string_bytes d.0) ≡ Some x)
        later d = (d.0, Contains-append_right (e ∷ []) es d.0 d.1, d.2)

  -- the name of an entry that a look-up finds, where the test keeps it
  pub name_kept : (look test : String A → Bool) (x : List ℕ) → ((k : String A) → look k ≡ true → (test k ≡ true) × (name_after front (string_bytes k) ≡ Some x))
      → (es : List (String A × Body)) (b : Body) → lookup look es ≡ Some b → Contains (names_in front (filter (λ e. test e.0) es)) x
  name_kept look test x one [] b h = cc
  name_kept look test x one (e ∷ es) b h = elim (look e.0) as (λ l. look e.0 ≡ l → (if l then Some e.1 else lookup look es) ≡ Some b → Contains (names_in front (filter (λ d. test d.0) (e ∷ es))) x) [
    | true ↦ λ is found. let k = one e.0 is in
        subst (λ t. Contains (names_in front (if t then e ∷ filter (λ d. test d.0) es else filter (λ d. test d.0) es)) x) (sym k.0)
        (subst (λ o. Contains (option_to_list o ++ names_in front (filter (λ d. test d.0) es)) x) (sym k.1) (0, omega arith, refl))
    | false ↦ λ is found. elim (test e.0) as (λ t. Contains (names_in front (if t then e ∷ filter (λ d. test d.0) es else filter (λ d. test d.0) es)) x) [
      | true ↦ Contains-append_right (option_to_list (name_after front (string_bytes e.0))) (names_in front (filter (λ d. test d.0) es)) x (name_kept look test x one es b found)
      | false ↦ name_kept look test x one es b found
    ]
  ] refl h

keys_kept : {A : Type 0} (test : String A → Bool) (es : List (String A × Body)) → keys_of (filter (λ e. test e.0) es) ≡ filter test (keys_of es)
keys_kept test [] = refl
keys_kept test (e ∷ es) = elim (test e.0) as (λ b. keys_of (if b then e ∷ filter (λ d. test d.0) es else filter (λ d. test d.0) es) ≡ (if b then e.0 ∷ filter test (keys_of es) else filter test (keys_of es))) [
  | true ↦ ap (λ ks. e.0 ∷ ks) (keys_kept test es)
  | false ↦ keys_kept test es
]

module _ {A : Type 0} (m : BTreeMap (String A) Body) (stem : List ℕ) (first past : String A)
    (first_is : string_bytes first ≡ stem ++ 47 ∷ []) (past_is : string_bytes past ≡ stem ++ 48 ∷ []) where
  pub forward : is_gt (string_cmp first past) ≡ false
  forward = ap is_gt (ap (λ t. slice_cmp nat_cmp t (string_bytes past)) first_is ∙ ap (slice_cmp nat_cmp (stem ++ 47 ∷ [])) past_is ∙ cmp_behind stem (47 ∷ []) (48 ∷ []))

  -- what has the front lies between the bounds
  between : (k : String A) (x : List ℕ) → string_bytes k ≡ stem ++ 47 ∷ x → range_contains string_cmp (Included first) (Excluded past) k ≡ true
  between k x is = both_true
      (ap is_le (ap (λ t. slice_cmp nat_cmp t (string_bytes k)) first_is ∙ ap (slice_cmp nat_cmp (stem ++ 47 ∷ [])) is ∙ cmp_behind stem (47 ∷ []) (47 ∷ x)) ∙ none_first x)
      (ap (λ o. not (is_le o)) (ap (λ t. slice_cmp nat_cmp t (string_bytes k)) past_is ∙ ap (slice_cmp nat_cmp (stem ++ 48 ∷ [])) is ∙ cmp_behind stem (48 ∷ []) (47 ∷ x)))
    where
      none_first : (x : List ℕ) → is_le (slice_cmp nat_cmp (47 ∷ []) (47 ∷ x)) ≡ true
      none_first [] = refl
      none_first (b ∷ x) = refl

  -- the names of the entries between the bounds are those of the folder's entries
  pub listing : (p : Path) → text_below p ≡ stem → IsTrue (is_path p) → All (λ e. get_by_text m (string_bytes e.0) ≡ Some e.1) (entries_between string_cmp (Included first) (Excluded past) m.entries)
      → IsOrdered string_cmp m
      → IsListing (rooted m) p (names_in (stem ++ 47 ∷ []) (entries_between string_cmp (Included first) (Excluded past) m.entries))
  listing p at good found rise = record {
    rising = names_rise (stem ++ 47 ∷ []) (entries_between string_cmp (Included first) (Excluded past) m.entries)
        (subst (IsStrictlySortedBy string_cmp) (sym (keys_kept (range_contains string_cmp (Included first) (Excluded past)) m.entries))
        (IsStrictlySortedBy-filter string_cmp (range_contains string_cmp (Included first) (Excluded past)) (keys_of m.entries) rise));
    stands = λ x h.
        let e = name_from (stem ++ 47 ∷ []) (entries_between string_cmp (Included first) (Excluded past) m.entries) x h in
        let name = name_only (stem ++ 47 ∷ []) (string_bytes e.0.0) x e.2 in
        let text : string_bytes e.0.0 ≡ path_text (x ∷ p) = name.1 ∙ append_assoc stem (47 ∷ []) x ∙ ap (λ t. t ++ 47 ∷ x) (sym at) in
        let stands : get_by_text m (path_text (x ∷ p)) ≡ Some e.0.1 = ap (get_by_text m) (sym text) ∙ All-contains (λ d. get_by_text m (string_bytes d.0) ≡ Some d.1) (entries_between string_cmp (Included first) (Excluded past) m.entries) e.0 found e.1 in
        (entry_of e.0.1, ap (λ b. if b then option_map entry_of (get_by_text m (path_text (x ∷ p))) else None) (both_true name.0 good) ∙ ap (option_map entry_of) stands);
    all = λ x e h. elim (is_path (x ∷ p)) as (λ b. is_path (x ∷ p) ≡ b → (if b then option_map entry_of (get_by_text m (path_text (x ∷ p))) else None) ≡ Some e → Contains names x) [
      | true ↦ λ path some. elim (get_by_text m (path_text (x ∷ p))) as (λ o. get_by_text m (path_text (x ∷ p)) ≡ o → option_map entry_of o ≡ Some e → Contains names x) [
        | None ↦ λ is none. cc
        | Some b ↦ λ is held. name_kept (stem ++ 47 ∷ []) (is_at (λ k. slice_cmp nat_cmp (path_text (x ∷ p)) (string_bytes k))) (range_contains string_cmp (Included first) (Excluded past)) x
            (λ k looked.
            let same : string_bytes k ≡ stem ++ 47 ∷ x = sym ((bytes_eq-Decides (path_text (x ∷ p)) (string_bytes k)).0 (sym (is_eq-slice_cmp (path_text (x ∷ p)) (string_bytes k)) ∙ looked)) ∙ ap (λ t. t ++ 47 ∷ x) at in
            (between k x same, ap (name_after (stem ++ 47 ∷ [])) (same ∙ sym (append_assoc stem (47 ∷ []) x)) ∙ name_there (stem ++ 47 ∷ []) x (and_left (is_part x) (is_path p) path)))
            m.entries b is
      ] refl some
      | false ↦ λ path none. cc
    ] refl h;
  } where
    names : List (List ℕ)
    names = names_in (stem ++ 47 ∷ []) (entries_between string_cmp (Included first) (Excluded past) m.entries)

-- one more key is read
pub names_step : {A : Type 0} (front : List ℕ) (names more all : List (List ℕ)) (it rest : List (String A × Body)) (e : String A × Body) (at text : List ℕ)
    → it ≡ e ∷ rest → at ≡ front → text ≡ string_bytes e.0 → more ≡ names ++ option_to_list (name_after at text) → names ++ names_in front it ≡ all → more ++ names_in front rest ≡ all
names_step front names more all it rest e at text is front_is text_is grew so_far =
    ap (λ l. l ++ names_in front rest) (grew ∙ ap (λ f. names ++ option_to_list (name_after f text)) front_is ∙ ap (λ t. names ++ option_to_list (name_after front t)) text_is)
    ∙ append_assoc names (option_to_list (name_after front (string_bytes e.0))) (names_in front rest) ∙ ap (λ es. names ++ names_in front es) (sym is) ∙ so_far

-- all keys are read
pub names_all : {A : Type 0} (front stem : List ℕ) (names : List (List ℕ)) (it all : List (String A × Body)) → front ≡ stem → it ≡ [] → names ++ names_in front it ≡ names_in front all → names ≡ names_in stem all
names_all front stem names it all at none so_far = sym (append-nil names) ∙ ap (λ es. names ++ names_in front es) (sym none) ∙ so_far ∙ ap (λ f. names_in f all) at
