-- Lemmas on texts and paths in byte order.
use Rattle.std.proofs.Common.{◌≡◌, ℕ, inl, inr, List, [], ◌∷◌, ◌++◌, map, refl, sym, ap, ◌∙◌, subst, arith, true, false, Some}
use Rattle.std.specs.Prelude.{IsTrue, String, string_bytes, if◌then◌else◌}
use Rattle.std.specs.List.{Contains, AllByRecursion}
use Rattle.std.specs.List.Sorted.{IsStrictlySortedBy}
use Rattle.std.specs.Map.{keys_of}
use Rattle.std.specs.Str.{bytes_eq}
use Rattle.std.specs.String.{string_cmp}
use Rattle.std.specs.Cmp.Lexicographic.{slice_cmp}
use Rattle.std.specs.Ordering.{nat_cmp}
use Rattle.std.specs.declared.cmp.Ordering.TheVariants.{Less, Greater}
use Rattle.std.proofs.lemmas.Slice.Eq.{bytes_eq-Decides}
use Rattle.pn_text.specs.Path.{Path, is_path, text_below, path_text}
use Rattle.pn_text.proofs.Members.{in_cons, there}
use Rattle.pn_text.proofs.Joins.{below_begins}
use Rattle.pn_text.proofs.Orders.{not_before_self}
use Rattle.pn_digest.specs.declared.planned.Planned.{Planned}
use Rattle.pn_digest.specs.PlannedTrees.{AreRising}
use Rattle.pn_draft.specs.Drawing.{mark_at}
use Rattle.pn_draft.specs.Sheets.{texts}
use Rattle.pn_draft.specs.Finished.{Item, placed}

-- a path with a part has a text of two bytes or more
long_text : (x : List ℕ) (p : Path) → IsTrue (is_path (x ∷ p)) → (b : ℕ) × (bs : List ℕ) × (text_below (x ∷ p) ≡ 47 ∷ b ∷ bs)
long_text [] [] h = cc
long_text (b ∷ bs) [] h = (b, bs, refl)
long_text x (y ∷ p) h = at_rest (below_begins y p).0 (below_begins y p).1 where
  at_rest : (rest : List ℕ) → text_below (y ∷ p) ≡ 47 ∷ rest → (b : ℕ) × (bs : List ℕ) × (text_below (y ∷ p) ++ 47 ∷ x ≡ 47 ∷ b ∷ bs)
  at_rest [] e = (47, x, ap (λ t. t ++ 47 ∷ x) e)
  at_rest (b ∷ bs) e = (b, bs ++ 47 ∷ x, ap (λ t. t ++ 47 ∷ x) e)

-- paths are in the order of their parts' texts
pub text_order : (p q : Path) → IsTrue (is_path q) → slice_cmp nat_cmp (text_below p) (text_below q) ≡ Less → slice_cmp nat_cmp (path_text p) (path_text q) ≡ Less
text_order [] [] good h = absurd (not_before_self [] h)
text_order [] (y ∷ q) good h = let l = long_text y q good in ap (slice_cmp nat_cmp (47 ∷ [])) l.2
text_order (x ∷ p) [] good h = absurd (let clash : Greater ≡ Less = sym (ap (λ t. slice_cmp nat_cmp t []) (below_begins x p).1) ∙ h in cc)
text_order (x ∷ p) (y ∷ q) good h = h

all_rising : (p : Path) (es : List Item) → ((e : Item) → Contains es e → IsTrue (is_path e.0)) → AllByRecursion (λ t. slice_cmp nat_cmp (text_below p) t ≡ Less) (keys_of (placed es))
    → AllByRecursion (λ t. slice_cmp nat_cmp (path_text p) t ≡ Less) (map (λ (e : Item). path_text e.0) es)
all_rising p [] good h = tt
all_rising p (e ∷ es) good h = (text_order p e.0 (good e (0, omega arith, refl)) h.0, all_rising p es (λ f k. good f (there e es f k)) h.1)

pub rising : (es : List Item) → ((e : Item) → Contains es e → IsTrue (is_path e.0)) → IsStrictlySortedBy (slice_cmp nat_cmp) (keys_of (placed es)) → AreRising es
unfolding IsStrictlySortedBy
rising [] good h = tt
rising (e ∷ es) good h = (all_rising e.0 es (λ f k. good f (there e es f k)) h.0, rising es (λ f k. good f (there e es f k)) h.1)

all_texts : {A : Type 0} (k : String A) (es : List (String A × Planned)) → AllByRecursion (λ y. string_cmp k y ≡ Less) (keys_of es) → AllByRecursion (λ t. slice_cmp nat_cmp (string_bytes k) t ≡ Less) (keys_of (texts es))
all_texts k [] h = tt
all_texts k (e ∷ es) h = (h.0, all_texts k es h.1)

pub sorted_texts : {A : Type 0} (es : List (String A × Planned)) → IsStrictlySortedBy string_cmp (keys_of es) → IsStrictlySortedBy (slice_cmp nat_cmp) (keys_of (texts es))
unfolding IsStrictlySortedBy
sorted_texts [] h = tt
sorted_texts (e ∷ es) h = (all_texts e.0 es h.0, sorted_texts es h.1)

all_placed : (P : List ℕ → Type 0) (es : List Item) (e : Item) → AllByRecursion P (keys_of (placed es)) → Contains es e → P (text_below e.0)
all_placed P [] e h k = absurd (omega (arith, k.1))
all_placed P (x ∷ es) e h k = elim (in_cons x es e k) [ inl same ↦ subst (λ (y : Item). P (text_below y.0)) same h.0 | inr more ↦ all_placed P es e h.1 more ]

-- an entry is found under its text
pub lookup_placed : (es : List Item) (e : Item) → IsStrictlySortedBy (slice_cmp nat_cmp) (keys_of (placed es)) → Contains es e → mark_at (placed es) (text_below e.0) ≡ Some e.1
unfolding IsStrictlySortedBy
lookup_placed [] e h k = absurd (omega (arith, k.1))
lookup_placed (x ∷ es) e h k = elim (in_cons x es e k) [
  | inl same ↦ subst (λ (y : Item). mark_at (placed (x ∷ es)) (text_below y.0) ≡ Some y.1) same
      (ap (λ b. if b then Some x.1 else mark_at (placed es) (text_below x.0)) ((bytes_eq-Decides (text_below x.0) (text_below x.0)).1 refl))
  | inr more ↦
      let before = all_placed (λ t. slice_cmp nat_cmp (text_below x.0) t ≡ Less) es e h.0 more in
      elim (bytes_eq (text_below e.0) (text_below x.0)) as (λ b. bytes_eq (text_below e.0) (text_below x.0) ≡ b → (if b then Some x.1 else mark_at (placed es) (text_below e.0)) ≡ Some e.1) [
        | true ↦ λ is. absurd (not_before_self (text_below x.0) (subst (λ t. slice_cmp nat_cmp (text_below x.0) t ≡ Less) ((bytes_eq-Decides (text_below e.0) (text_below x.0)).0 is) before))
        | false ↦ λ other. lookup_placed es e h.1 more
      ] refl
]

-- what is found under a text is an entry's
pub found_placed : (es : List Item) (text : List ℕ) (w : Planned) → mark_at (placed es) text ≡ Some w → (e : Item) × Contains es e × (text ≡ text_below e.0) × (e.1 ≡ w)
found_placed [] text w h = cc
found_placed (x ∷ es) text w h = elim (bytes_eq text (text_below x.0)) as (λ b. bytes_eq text (text_below x.0) ≡ b → (if b then Some x.1 else mark_at (placed es) text) ≡ Some w → (e : Item) × Contains (x ∷ es) e × (text ≡ text_below e.0) × (e.1 ≡ w)) [
  | true ↦ λ is h. (x, (0, omega arith, refl), (bytes_eq-Decides text (text_below x.0)).0 is, cc)
  | false ↦ λ other h. let r = found_placed es text w h in (r.0, there x es r.0 r.1, r.2, r.3)
] refl h

pub found_text : {A : Type 0} (es : List (String A × Planned)) (text : List ℕ) (w : Planned) → mark_at (texts es) text ≡ Some w → (e : String A × Planned) × Contains es e × (text ≡ string_bytes e.0)
found_text [] text w h = cc
found_text {A} (x ∷ es) text w h = elim (bytes_eq text (string_bytes x.0)) as (λ b. bytes_eq text (string_bytes x.0) ≡ b → (if b then Some x.1 else mark_at (texts es) text) ≡ Some w → (e : String A × Planned) × Contains (x ∷ es) e × (text ≡ string_bytes e.0)) [
  | true ↦ λ is h. (x, (0, omega arith, refl), (bytes_eq-Decides text (string_bytes x.0)).0 is)
  | false ↦ λ other h. let r = found_text es text w h in (r.0, there x es r.0 r.1, r.2)
] refl h

all_keys : {A : Type 0} (P : String A → Type 0) (es : List (String A × Planned)) (e : String A × Planned) → AllByRecursion P (keys_of es) → Contains es e → P e.0
all_keys P [] e h k = absurd (omega (arith, k.1))
all_keys {A} P (x ∷ es) e h k = elim (in_cons x es e k) [ inl same ↦ subst (λ (y : String A × Planned). P y.0) same h.0 | inr more ↦ all_keys P es e h.1 more ]

-- a key is before those behind it
pub before_later : {A : Type 0} (before : List (String A × Planned)) (e : String A × Planned) (after : List (String A × Planned)) (f : String A × Planned) → IsStrictlySortedBy string_cmp (keys_of (before ++ e ∷ after)) → Contains after f
    → slice_cmp nat_cmp (string_bytes e.0) (string_bytes f.0) ≡ Less
unfolding IsStrictlySortedBy
before_later [] e after f h k = all_keys (λ y. string_cmp e.0 y ≡ Less) after f h.0 k
before_later (x ∷ before) e after f h k = before_later before e after f h.1 k
