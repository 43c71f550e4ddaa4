-- Lists in byte order of their paths, and what a search finds in them.
use Rattle.std.proofs.Common.{◌≡◌, ℕ, ◌+◌, ◌<◌, ◌≤◌, List, [], ◌∷◌, ◌++◌, map, get_or, refl, sym, ap, ◌∙◌, subst, arith, true, false, inl, inr, Some, None}
use Rattle.std.specs.declared.cmp.Ordering.TheVariants.{Less, Greater}
use Rattle.std.proofs.lemmas.Bool.Decides.{nat_tests}
use Rattle.std.specs.Prelude.{Result, Ok, Err, MatchResult, suc, nat_lt, if◌then◌else◌}
use Prim.Native.Nat.{zero}
use Rattle.std.specs.List.{Contains, AllByRecursion}
use Rattle.std.specs.Ordering.{is_lt, nat_cmp}
use Rattle.std.specs.Cmp.Lexicographic.{slice_cmp}
use Rattle.std.specs.List.Sorted.{IsStrictlySortedBy, IsSortedBy, IsBinarySearchResult}
use Rattle.std.proofs.lemmas.Cmp.{nat_list_cmp_total, tied_itself}
use Rattle.std.proofs.lemmas.List.Elements.{Contains-append_right}
use Rattle.std.proofs.lemmas.List.Sorted.{searchable_from_sorted}
use Rattle.std.proofs.lemmas.Map.Lookups.{exact_bytes}
use Rattle.pn_text.specs.Path.{Path, path_text, same_path, SpellsAbs}
use Rattle.pn_text.proofs.Paths.{same_path-Decides, same_path_refl, spells_one}
use Rattle.pn_text.proofs.Members.{in_cons, there, here}
use Rattle.pn_text.proofs.Orders.{is_less, not_before_self, not_both_before}
use Rattle.pn_clear.specs.Items.{Rises, at_path}

-- an entry's text
abbrev pub entry_text : {T : Type 0} → Path × T → List ℕ
entry_text e = path_text e.0

not_back : (x y : List ℕ) → slice_cmp nat_cmp x y ≡ Less → is_lt (slice_cmp nat_cmp y x) ≡ false
not_back x y h = elim (is_lt (slice_cmp nat_cmp y x)) as (λ b. is_lt (slice_cmp nat_cmp y x) ≡ b → b ≡ false) [
  | true ↦ λ e. absurd (not_both_before x y h (is_less (slice_cmp nat_cmp y x) e))
  | false ↦ λ e. refl
] refl

read_on : {A : Type 0} (x : A) (xs : List A) (k : ℕ) (d : A) → get_or (x ∷ xs) (suc k + 1) d ≡ get_or xs (k + 1) d
read_on x xs k d = let e : suc k + 1 ≡ suc (k + 1) = omega arith in ap (λ n. get_or (x ∷ xs) n d) e

sorted : {T : Type 0} (es : List (Path × T)) → Rises es → IsSortedBy (λ (a b : Path × T). is_lt (slice_cmp nat_cmp (path_text a.0) (path_text b.0))) es
unfolding IsStrictlySortedBy
sorted [] h k d low within = absurd (omega arith)
sorted (f ∷ []) h k d low within = absurd (omega arith)
sorted (f ∷ g ∷ fs) h zero d low within = not_back (path_text f.0) (path_text g.0) h.0.0
sorted {T} (f ∷ g ∷ fs) h (suc k) d low within =
    subst (λ (z : Path × T). is_lt (slice_cmp nat_cmp (path_text z.0) (path_text (get_or (g ∷ fs) k d).0)) ≡ false) (sym (read_on f (g ∷ fs) k d)) (sorted (g ∷ fs) h.1 k d (omega arith) (omega arith))

not_after_itself : (x : List ℕ) → slice_cmp nat_cmp x x ≡ Greater → ⊥
not_after_itself x h = let same = tied_itself nat_list_cmp_total x in cc (same, h)

-- what a search by text found
pub searched : {T : Type 0} (x : List ℕ) (es : List (Path × T)) (r : Result ℕ ℕ) → Rises es → IsBinarySearchResult (λ (y : Path × T). slice_cmp nat_cmp (path_text y.0) x) es r
    → MatchResult r (λ at. (d : Path × T) → path_text (get_or es at d).0 ≡ x) (λ at. (e : Path × T) → Contains es e → path_text e.0 ≡ x → ⊥)
searched x es (Ok at) rising equal = λ d. exact_bytes (path_text (get_or es at d).0) x (equal d)
searched {T} x es (Err at) rising parted = λ y h is.
    let k = h.0 in
    let same : path_text (get_or es k y).0 ≡ x = ap (λ (g : Path × T). path_text g.0) h.2 ∙ is in
    let parts = parted (searchable_from_sorted nat_list_cmp_total (λ (g : Path × T). path_text g.0) es x (sorted es rising)) in
    elim (nat_lt k at) as (λ b. nat_lt k at ≡ b → ⊥) [
      | true ↦ λ e. not_before_self x (subst (λ z. slice_cmp nat_cmp z x ≡ Less) same (parts.0 k y (omega arith) (below k at e)))
      | false ↦ λ e. not_after_itself x (subst (λ z. slice_cmp nat_cmp z x ≡ Greater) same (parts.1 k y (not_below k at e) h.1))
    ] refl
  where
    below : (k n : ℕ) → nat_lt k n ≡ true → k < n
    below k n e = grind (arith, nat_tests, e)

    not_below : (k n : ℕ) → nat_lt k n ≡ false → n ≤ k
    not_below k n e = grind (arith, nat_tests, e)

pub found_text : {T : Type 0} (x : List ℕ) (es : List (Path × T)) (r : Result ℕ ℕ) (at : ℕ) → r ≡ Ok at → Rises es → IsBinarySearchResult (λ (y : Path × T). slice_cmp nat_cmp (path_text y.0) x) es r
    → (d : Path × T) → path_text (get_or es at d).0 ≡ x
found_text {T} x es r at is rising found =
    subst (λ (r : Result ℕ ℕ). MatchResult r (λ at. (d : Path × T) → path_text (get_or es at d).0 ≡ x) (λ at. (e : Path × T) → Contains es e → path_text e.0 ≡ x → ⊥)) is (searched x es r rising found)

pub none_found : {T : Type 0} (x : List ℕ) (es : List (Path × T)) (r : Result ℕ ℕ) (at : ℕ) → r ≡ Err at → Rises es → IsBinarySearchResult (λ (y : Path × T). slice_cmp nat_cmp (path_text y.0) x) es r
    → (e : Path × T) → Contains es e → path_text e.0 ≡ x → ⊥
none_found {T} x es r at is rising found =
    subst (λ (r : Result ℕ ℕ). MatchResult r (λ at. (d : Path × T) → path_text (get_or es at d).0 ≡ x) (λ at. (e : Path × T) → Contains es e → path_text e.0 ≡ x → ⊥)) is (searched x es r rising found)

all_after : {T : Type 0} (P : List ℕ → Type 0) (es : List (Path × T)) (e : Path × T) → AllByRecursion P (map (λ (d : Path × T). path_text d.0) es) → Contains es e → P (path_text e.0)
all_after P [] e h k = absurd (omega (arith, k.1))
all_after {T} P (x ∷ es) e h k = elim (in_cons x es e k) [ inl same ↦ subst (λ (y : Path × T). P (path_text y.0)) same h.0 | inr more ↦ all_after P es e h.1 more ]

-- an entry is found at its path
pub found_at : {T : Type 0} (es : List (Path × T)) (e : Path × T) → Rises es → Contains es e → at_path es e.0 ≡ Some e.1
unfolding IsStrictlySortedBy
found_at [] e h k = absurd (omega (arith, k.1))
found_at {T} (x ∷ es) e h k = elim (in_cons x es e k) [
  | inl same ↦ subst (λ (y : Path × T). at_path (x ∷ es) y.0 ≡ Some y.1) same (ap (λ b. if b then Some x.1 else at_path es x.0) (same_path_refl x.0))
  | inr more ↦
      let before = all_after (λ t. slice_cmp nat_cmp (path_text x.0) t ≡ Less) es e h.0 more in
      elim (same_path e.0 x.0) as (λ b. same_path e.0 x.0 ≡ b → (if b then Some x.1 else at_path es e.0) ≡ Some e.1) [
        | true ↦ λ is. absurd (not_before_self (path_text x.0) (subst (λ p. slice_cmp nat_cmp (path_text x.0) (path_text p) ≡ Less) ((same_path-Decides e.0 x.0).0 is) before))
        | false ↦ λ other. found_at es e h.1 more
      ] refl
]

-- what is found at a path is an entry's
pub at_found : {T : Type 0} (es : List (Path × T)) (q : Path) (w : T) → at_path es q ≡ Some w → Contains es (q, w)
at_found [] q w h = cc
at_found {T} (x ∷ es) q w h = elim (same_path q x.0) as (λ b. same_path q x.0 ≡ b → (if b then Some x.1 else at_path es q) ≡ Some w → Contains (x ∷ es) (q, w)) [
  | true ↦ λ is h. let one : x ≡ (q, w) = pair_is (sym ((same_path-Decides q x.0).0 is)) cc in subst (Contains (x ∷ es)) one (here x es)
  | false ↦ λ other h. there x es (q, w) (at_found es q w h)
] refl h where
  pair_is : {A B : Type 0} {a : A} {b : B} {p : A × B} → p.0 ≡ a → p.1 ≡ b → p ≡ (a, b)
  pair_is h k = λ i. (h i, k i)

-- none of the entries is at the path
pub none_at : {T : Type 0} (es : List (Path × T)) (q : Path) → ((e : Path × T) → Contains es e → path_text e.0 ≡ path_text q → ⊥) → at_path es q ≡ None
none_at es q h = elim (at_path es q) as (λ o. at_path es q ≡ o → o ≡ None) [
  | None ↦ λ e. refl
  | Some w ↦ λ e. absurd (h (q, w) (at_found es q w e) refl)
] refl

-- an entry before another one in the list is before it in the order
pub before_later : {T : Type 0} (before : List (Path × T)) (e : Path × T) (after : List (Path × T)) (f : Path × T) → Rises (before ++ e ∷ after) → Contains after f → slice_cmp nat_cmp (path_text e.0) (path_text f.0) ≡ Less
unfolding IsStrictlySortedBy
before_later [] e after f h k = all_after (λ t. slice_cmp nat_cmp (path_text e.0) t ≡ Less) after f h.0 k
before_later (x ∷ before) e after f h k = before_later before e after f h.1 k

-- what was found under a path's text is what the list has at the path
pub found_by_text : {T : Type 0} (es : List (Path × T)) (text : List ℕ) (q : Path) (e : Path × T) → Rises es → Contains es e → SpellsAbs text e.0 → SpellsAbs text q → at_path es q ≡ Some e.1
found_by_text {T} es text q e rising h s k = subst (λ p. at_path es p ≡ Some e.1) (spells_one text e.0 q s k) (found_at es e rising h)

-- where nothing was found, it has nothing
pub none_by_text : {T : Type 0} (es : List (Path × T)) (text : List ℕ) (q : Path) → ((e : Path × T) → Contains es e → path_text e.0 ≡ text → ⊥) → SpellsAbs text q → at_path es q ≡ None
none_by_text es text q h s = none_at es q (λ e inside same. h e inside (same ∙ sym s.spelled))

-- and so are those before it
pub earlier : {T : Type 0} (before : List (Path × T)) (f e : Path × T) (after : List (Path × T)) → Rises (before ++ e ∷ after) → Contains before f → slice_cmp nat_cmp (path_text f.0) (path_text e.0) ≡ Less
unfolding IsStrictlySortedBy
earlier [] f e after h k = absurd (omega (arith, k.1))
earlier {T} (x ∷ before) f e after h k = elim (in_cons x before f k) [
  | inl same ↦ subst (λ (y : Path × T). slice_cmp nat_cmp (path_text y.0) (path_text e.0) ≡ Less) same (all_after (λ t. slice_cmp nat_cmp (path_text x.0) t ≡ Less) (before ++ e ∷ after) e h.0 (Contains-append_right before (e ∷ after) e (here e after)))
  | inr more ↦ earlier before f e after h.1 more
]
