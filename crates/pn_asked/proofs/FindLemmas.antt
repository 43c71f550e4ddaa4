-- The first that fails a test, and rows.
use Rattle.std.proofs.Common.{◌≡◌, ℕ, Bool, true, false, cond, List, [], ◌∷◌, map, refl, sym, ap, ◌∙◌, subst, inl, inr}
use Rattle.std.specs.Prelude.{◌||◌, ◌&&◌, not, Option, Some, None, bytes_eq}
use Rattle.std.specs.List.{find}
use Rattle.std.specs.Ordering.{is_lt, nat_cmp}
use Rattle.std.specs.Cmp.Lexicographic.{slice_cmp}
use Rattle.std.proofs.lemmas.Bool.{cases_Bool}
use Rattle.std.proofs.lemmas.Slice.Eq.{bytes_eq-Decides}
use Rattle.pn_text.proofs.Bools.{left_false, right_false, not_false, or_true}
use Rattle.pn_lock.specs.declared.lists.Override.{Override}
use Rattle.pn_lock.specs.declared.lists.LockDependency.{LockDependency}
use Rattle.pn_lock.specs.declared.lists.LockImporter.{LockImporter}
use Rattle.pn_asked.specs.Differences.{has_alias, is_lost, override_differs, override_rows, rows_of}
use Rattle.pn_asked.specs.Rows.{Row, agree, at_key, first_missing, first_other, is_in, keys, lesser}

itself : (x : List ℕ) → bytes_eq x x ≡ true
itself x = (bytes_eq-Decides x x).1 refl

same : (x y : List ℕ) → bytes_eq x y ≡ true → x ≡ y
same x y e = (bytes_eq-Decides x y).0 e

-- ---- the first of some keys

found : (p : List ℕ → Bool) (x : List ℕ) (ks : List (List ℕ)) → find p (x ∷ ks) ≡ None → (p x ≡ false) × (find p ks ≡ None)
found p x ks h = (elim (p x) as (λ o. cond o (Some x) (find p ks) ≡ None → (o ≡ false) × (find p ks ≡ None)) [ true ↦ λ g. absurd (cc g) | false ↦ λ g. (refl, g) ]) h

pub find_none : (p : List ℕ → Bool) (ks : List (List ℕ)) → find p ks ≡ None → (k : List ℕ) → is_in ks k ≡ true → p k ≡ false
find_none p [] h k i = absurd (cc i)
find_none p (x ∷ ks) h k i =
    let f = found p x ks h in
    (elim (bytes_eq x k) as (λ o. bytes_eq x k ≡ o → (o || is_in ks k) ≡ true → p k ≡ false) [
      | true ↦ λ e j. subst (λ y. p y ≡ false) (same x k e) f.0
      | false ↦ λ e j. find_none p ks f.1 k j
    ]) refl i

pub none_find : (p : List ℕ → Bool) (ks : List (List ℕ)) → ((k : List ℕ) → is_in ks k ≡ true → p k ≡ false) → find p ks ≡ None
none_find p [] h = refl
none_find p (x ∷ ks) h =
    ap (λ o. cond o (Some x) (find p ks)) (h x (ap (λ o. o || is_in ks x) (itself x)))
    ∙ none_find p ks (λ k i. h k (ap (λ o. bytes_eq x k || o) i ∙ or_true (bytes_eq x k)))

pub lesser_none : (a b : Option (List ℕ)) → lesser a b ≡ None → (a ≡ None) × (b ≡ None)
lesser_none None b h = (refl, h)
lesser_none (Some x) None h = absurd (cc h)
lesser_none (Some x) (Some y) h = (elim (is_lt (slice_cmp nat_cmp y x)) as (λ o. cond o (Some y) (Some x) ≡ None → (Some x ≡ None) × (Some y ≡ None)) [ true ↦ λ g. absurd (cc g) | false ↦ λ g. absurd (cc g) ]) h

pub none_lesser : (a b : Option (List ℕ)) → a ≡ None → b ≡ None → lesser a b ≡ None
none_lesser a b p q = ap (λ x. lesser x b) p ∙ q

-- ---- rows

pub no_key : (k : List ℕ) (rows : List Row) → is_in (keys rows) k ≡ false → at_key k rows ≡ None
no_key k [] h = refl
no_key k (r ∷ rows) h = ap (λ o. cond o (Some r.1) (at_key k rows)) (left_false (bytes_eq r.0 k) (is_in (keys rows) k) h) ∙ no_key k rows (right_false (bytes_eq r.0 k) (is_in (keys rows) k) h)

pub agree_same : (a b : Option (List ℕ)) → agree a b ≡ true → a ≡ b
agree_same None None h = refl
agree_same (Some x) (Some y) h = ap Some (same x y h)
agree_same None (Some y) h = absurd (cc h)
agree_same (Some x) None h = absurd (cc h)

pub same_agree : (a b : Option (List ℕ)) → a ≡ b → agree a b ≡ true
same_agree a b e = subst (λ y. agree a y ≡ true) e (self a) where
  self : (a : Option (List ℕ)) → agree a a ≡ true
  self None = refl
  self (Some x) = itself x

abbrev pub SameRows : List Row → List Row → Type 0
SameRows a b = (k : List ℕ) → at_key k a ≡ at_key k b

pub same_rows : (a b : List Row) → first_other a b ≡ None → first_other b a ≡ None → SameRows a b
same_rows a b p q k = elim (cases_Bool (is_in (keys a) k)) [
  | inl i ↦ agree_same (at_key k a) (at_key k b) (not_false _ (find_none (λ k. not (agree (at_key k a) (at_key k b))) (keys a) p k i))
  | inr n ↦ elim (cases_Bool (is_in (keys b) k)) [
    | inl i ↦ sym (agree_same (at_key k b) (at_key k a) (not_false _ (find_none (λ k. not (agree (at_key k b) (at_key k a))) (keys b) q k i)))
    | inr m ↦ no_key k a n ∙ sym (no_key k b m)
  ]
]

pub no_other : (a b : List Row) → SameRows a b → first_other a b ≡ None
no_other a b h = none_find (λ k. not (agree (at_key k a) (at_key k b))) (keys a) (λ k i. ap not (same_agree (at_key k a) (at_key k b) (h k)))

-- ---- keys on both sides

abbrev pub SameKeys : List (List ℕ) → List (List ℕ) → Type 0
SameKeys a b = (k : List ℕ) → is_in a k ≡ is_in b k

pub same_keys : (a b : List (List ℕ)) → first_missing a b ≡ None → first_missing b a ≡ None → SameKeys a b
same_keys a b p q k = elim (cases_Bool (is_in a k)) [
  | inl i ↦ i ∙ sym (not_false _ (find_none (λ k. not (is_in b k)) a p k i))
  | inr n ↦ elim (cases_Bool (is_in b k)) [
    | inl i ↦ not_false _ (find_none (λ k. not (is_in a k)) b q k i) ∙ sym i
    | inr m ↦ n ∙ sym m
  ]
]

pub no_missing : (a b : List (List ℕ)) → SameKeys a b → first_missing a b ≡ None
no_missing a b h = none_find (λ k. not (is_in b k)) a (λ k i. ap not (sym (h k) ∙ i))

-- ---- pairs

pub same_pairs : (rows : List Row) → map (λ (p : Row). (p.0, p.1)) rows ≡ rows
same_pairs [] = refl
same_pairs (r ∷ rows) = ap (λ rs. r ∷ rs) (same_pairs rows)

pub overrides_found : (r a b : Option (List ℕ)) (os locked : List Override) (rows asked : List Row) → r ≡ lesser a b
    → a ≡ first_other (override_rows locked) (map (λ (p : Row). (p.0, p.1)) rows) → b ≡ first_other (map (λ (p : Row). (p.0, p.1)) rows) (override_rows locked)
    → locked ≡ os → rows ≡ asked → r ≡ override_differs os asked
overrides_found r a b os locked rows asked e ea eb p q =
    e ∙ ap (λ x. lesser x b) ea ∙ ap (lesser (first_other (override_rows locked) (map (λ (p : Row). (p.0, p.1)) rows))) eb
    ∙ ap (λ rs. lesser (first_other (override_rows locked) rs) (first_other rs (override_rows locked))) (same_pairs rows ∙ q) ∙ ap (λ ls. lesser (first_other (override_rows ls) asked) (first_other asked (override_rows ls))) p

agree_is : (i : LockImporter) (rows : List Row) (k : List ℕ) (a b : Option (List ℕ)) (locked : List LockDependency) (is : Bool) → is ≡ agree a b → a ≡ at_key k (map (λ (p : Row). (p.0, p.1)) rows)
    → b ≡ at_key k (rows_of locked) → locked ≡ i.optional → is ≡ agree (at_key k rows) (at_key k (rows_of i.optional))
agree_is i rows k a b locked is e ea eb p =
    e ∙ ap (λ o. agree o b) (ea ∙ ap (at_key k) (same_pairs rows)) ∙ ap (agree (at_key k rows)) (eb ∙ ap (λ ds. at_key k (rows_of ds)) p)

pub not_lost : (i : LockImporter) (rows : List Row) (k : List ℕ) (a b : Option (List ℕ)) (locked : List LockDependency) (is : Bool) → is ≡ agree a b → a ≡ at_key k (map (λ (p : Row). (p.0, p.1)) rows)
    → b ≡ at_key k (rows_of locked) → locked ≡ i.optional → is ≡ true → false ≡ is_lost i rows k
not_lost i rows k a b locked is e ea eb p t = ap (λ o. not o && has_alias i k) (sym t ∙ agree_is i rows k a b locked is e ea eb p)

pub lost_known : (i : LockImporter) (rows : List Row) (k : List ℕ) (a b : Option (List ℕ)) (locked : List LockDependency) (is has : Bool) → is ≡ agree a b → a ≡ at_key k (map (λ (p : Row). (p.0, p.1)) rows)
    → b ≡ at_key k (rows_of locked) → locked ≡ i.optional → is ≡ false → has ≡ has_alias i k → has ≡ is_lost i rows k
lost_known i rows k a b locked is has e ea eb p f h = h ∙ ap (λ o. not o && has_alias i k) (sym f ∙ agree_is i rows k a b locked is e ea eb p)
