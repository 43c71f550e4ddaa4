-- The laws of ranges.
use Rattle.std.proofs.Common.{◌≡◌, ◌≢◌, ◌≤◌, ◌<◌, ◌+◌, ℕ, Bool, true, false, List, [], ◌∷◌, length, refl, sym, ap, ◌∙◌, arith, inl, inr}
use Rattle.std.specs.Prelude.{◌==◌, ◌&&◌, ◌||◌, ◌⊎◌, not}
use Rattle.std.specs.List.{list_all, list_any}
use Rattle.std.specs.Ordering.{is_ge, is_lt, nat_cmp, ordering_then}
use Rattle.std.proofs.lemmas.Bool.{and_parts, cases_Bool, eqb-true}
use Rattle.std.proofs.lemmas.Bool.Decides.{nat_tests}
use Rattle.std.proofs.lemmas.List.{nil_from_length}
use Rattle.std.specs.declared.cmp.Ordering.TheVariants as order
use Rattle.std.proofs.lemmas.List.Folds.{list_any-append}
use Rattle.std.proofs.Math.Bool.{or-false}
use Rattle.semver.specs.Order.{pre_cmp}
use Rattle.semver.specs.Parse.{Parts}
use Rattle.pn_ranges.specs.declared.comparator.Sign.TheVariants as sign
use Rattle.pn_ranges.specs.Limits.{Limit, is_release, meets, meets_all, names_pre}
use Rattle.pn_ranges.specs.Laws.{CaretLaw, HyphenLaw, IsNotBelow, KeepsLeftmost, NamesPre, PreLaw, UnionLaw}
use Rattle.pn_ranges.specs.Table.{full, limits, at_least, before, caret_end}

pub hyphen : HyphenLaw
hyphen a b c x y z p q = refl

pub union : UnionLaw
union v ls rs ss = (or-false (meets_all v ls), list_any-append (meets_all v) rs ss)

not-nil : (p : List ℕ) → not (length p == 0) ≡ true → p ≢ []
not-nil [] h e = cc h
not-nil (b ∷ p) h e = cc e

named : (v : Parts) (ls : List Limit) → list_any (names_pre v) ls ≡ true → NamesPre v ls
named v [] h = cc h
named v (l ∷ ls) h = elim (cases_Bool (names_pre v l)) [
  | inl this ↦
      let a = (and_parts (not (length l.pre == 0) && (l.major == v.0) && (l.minor == v.1)) (l.patch == v.2) this).0 in
      let b = (and_parts (not (length l.pre == 0) && (l.major == v.0)) (l.minor == v.1) a).0 in
      record {
        before = [];
        limit = l;
        behind = ls;
        among = refl;
        pre = not-nil l.pre (and_parts (not (length l.pre == 0)) (l.major == v.0) b).0;
        major = eqb-true l.major v.0 (and_parts (not (length l.pre == 0)) (l.major == v.0) b).1;
        minor = eqb-true l.minor v.1 (and_parts (not (length l.pre == 0) && (l.major == v.0)) (l.minor == v.1) a).1;
        patch = eqb-true l.patch v.2 (and_parts (not (length l.pre == 0) && (l.major == v.0) && (l.minor == v.1)) (l.patch == v.2) this).1;
      }
  | inr other ↦
      let r = named v ls (rw other at h) in
      record {
        before = l ∷ r.before;
        limit = r.limit;
        behind = r.behind;
        among = ap (λ z. l ∷ z) r.among;
        pre = r.pre;
        major = r.major;
        minor = r.minor;
        patch = r.patch;
      }
]

pub pre : PreLaw
pre v ls r h = named v ls (rw r at (and_parts (list_all (meets v) ls) (is_release v || list_any (names_pre v) ls) h).1)

-- the order of three numbers
ge-true : (x y z a b c : ℕ) → is_ge (ordering_then (nat_cmp x a) (ordering_then (nat_cmp y b) (ordering_then (nat_cmp z c) order.Equal))) ≡ true
    → (a < x) ⊎ ((x ≡ a) × ((b < y) ⊎ ((y ≡ b) × (c ≤ z))))
ge-true x y z a b c h = grind (arith, nat_tests)

true-ge : (x y z a b c : ℕ) → (a < x) ⊎ ((x ≡ a) × ((b < y) ⊎ ((y ≡ b) × (c ≤ z))))
    → is_ge (ordering_then (nat_cmp x a) (ordering_then (nat_cmp y b) (ordering_then (nat_cmp z c) order.Equal))) ≡ true
true-ge x y z a b c h = grind (arith, nat_tests)

lt-true : (x y z a b c : ℕ) → is_lt (ordering_then (nat_cmp x a) (ordering_then (nat_cmp y b) (ordering_then (nat_cmp z c) order.Greater))) ≡ true
    → (x < a) ⊎ ((x ≡ a) × ((y < b) ⊎ ((y ≡ b) × (z < c))))
lt-true x y z a b c h = grind (arith, nat_tests)

true-lt : (x y z a b c : ℕ) → (x < a) ⊎ ((x ≡ a) × ((y < b) ⊎ ((y ≡ b) × (z < c))))
    → is_lt (ordering_then (nat_cmp x a) (ordering_then (nat_cmp y b) (ordering_then (nat_cmp z c) order.Greater))) ≡ true
true-lt x y z a b c h = grind (arith, nat_tests)

released : (v : Parts) → is_release v ≡ true → v.3 ≡ []
released v h = nil_from_length v.3 (eqb-true (length v.3) 0 h)

at-least-is : (v : Parts) (a b c : ℕ) → v.3 ≡ []
    → meets v (at_least a b c []) ≡ is_ge (ordering_then (nat_cmp v.0 a) (ordering_then (nat_cmp v.1 b) (ordering_then (nat_cmp v.2 c) order.Equal)))
at-least-is v a b c h = ap (λ (p : List ℕ). is_ge (ordering_then (nat_cmp v.0 a) (ordering_then (nat_cmp v.1 b) (ordering_then (nat_cmp v.2 c) (pre_cmp p []))))) h

before-is : (v : Parts) (a b c : ℕ) → v.3 ≡ []
    → meets v (before a b c) ≡ is_lt (ordering_then (nat_cmp v.0 a) (ordering_then (nat_cmp v.1 b) (ordering_then (nat_cmp v.2 c) order.Greater)))
before-is v a b c h = ap (λ (p : List ℕ). is_lt (ordering_then (nat_cmp v.0 a) (ordering_then (nat_cmp v.1 b) (ordering_then (nat_cmp v.2 c) (pre_cmp p (48 ∷ [])))))) h

-- where a caret ends
major-kept : (x y z a b c : ℕ) → (a < x) ⊎ ((x ≡ a) × ((b < y) ⊎ ((y ≡ b) × (c ≤ z)))) → (x < a + 1) ⊎ ((x ≡ a + 1) × ((y < 0) ⊎ ((y ≡ 0) × (z < 0)))) → x ≡ a
major-kept x y z a b c g l = grind arith

minor-kept : (x y z a b c : ℕ) → a ≡ 0 → (a < x) ⊎ ((x ≡ a) × ((b < y) ⊎ ((y ≡ b) × (c ≤ z)))) → (x < a) ⊎ ((x ≡ a) × ((y < b + 1) ⊎ ((y ≡ b + 1) × (z < 0)))) → (x ≡ a) × (y ≡ b)
minor-kept x y z a b c n g l = (grind arith, grind arith)

patch-kept : (x y z a b c : ℕ) → a ≡ 0 → b ≡ 0 → (a < x) ⊎ ((x ≡ a) × ((b < y) ⊎ ((y ≡ b) × (c ≤ z)))) → (x < a) ⊎ ((x ≡ a) × ((y < b) ⊎ ((y ≡ b) × (z < c + 1))))
    → (x ≡ a) × (y ≡ b) × (z ≡ c)
patch-kept x y z a b c n m g l = (grind arith, grind arith, grind arith)

-- in front of the end of a caret a version keeps the left-most number
kept : (v : Parts) (a b c : ℕ) → v.3 ≡ [] → IsNotBelow v a b c → meets v (caret_end a b c) ≡ true → KeepsLeftmost v a b c
kept v a b c r g h = elim (cases_Bool (a == 0)) [
  | inl za ↦ elim (cases_Bool (b == 0)) [
    | inl zb ↦
        let k = patch-kept v.0 v.1 v.2 a b c (eqb-true a 0 za) (eqb-true b 0 zb) g
        (lt-true v.0 v.1 v.2 a b (c + 1) (sym (before-is v a b (c + 1) r) ∙ rw (za, zb) at h)) in
        record { major = k.0; minor = λ _. k.1; patch = λ _ _. k.2 }
    | inr nb ↦
        let k = minor-kept v.0 v.1 v.2 a b c (eqb-true a 0 za) g
        (lt-true v.0 v.1 v.2 a (b + 1) 0 (sym (before-is v a (b + 1) 0 r) ∙ rw (za, nb) at h)) in
        record { major = k.0; minor = λ _. k.1; patch = λ _ e. absurd (let f : (b == 0) ≡ true = ap (λ z. z == 0) e in let x : true ≡ false = sym f ∙ nb in cc) }
  ]
  | inr na ↦
      let k = major-kept v.0 v.1 v.2 a b c g
      (lt-true v.0 v.1 v.2 (a + 1) 0 0 (sym (before-is v (a + 1) 0 0 r) ∙ rw na at h)) in
      record {
        major = k;
        minor = λ e. absurd (let f : (a == 0) ≡ true = ap (λ z. z == 0) e in let x : true ≡ false = sym f ∙ na in cc);
        patch = λ e _. absurd (let f : (a == 0) ≡ true = ap (λ z. z == 0) e in let x : true ≡ false = sym f ∙ na in cc);
      }
]

ends : (v : Parts) (a b c : ℕ) → v.3 ≡ [] → KeepsLeftmost v a b c → meets v (caret_end a b c) ≡ true
ends v a b c r k = elim (cases_Bool (a == 0)) [
  | inl za ↦ elim (cases_Bool (b == 0)) [
    | inl zb ↦
        let e = k.major in
        let f = k.minor (eqb-true a 0 za) in
        let g = k.patch (eqb-true a 0 za) (eqb-true b 0 zb) in
        rw (za, zb) (before-is v a b (c + 1) r ∙ true-lt v.0 v.1 v.2 a b (c + 1) (inr (e, inr (f, omega arith))))
    | inr nb ↦
        let e = k.major in
        let f = k.minor (eqb-true a 0 za) in
        rw (za, nb) (before-is v a (b + 1) 0 r ∙ true-lt v.0 v.1 v.2 a (b + 1) 0 (inr (e, inl (omega arith))))
  ]
  | inr na ↦ let e = k.major in rw na (before-is v (a + 1) 0 0 r ∙ true-lt v.0 v.1 v.2 (a + 1) 0 0 (inl (omega arith)))
]

all-two : (v : Parts) (x y : Bool) → is_release v ≡ true → (z : Bool) → ((x && (y && true)) && (is_release v || z)) ≡ true → (x ≡ true) × (y ≡ true)
all-two v true true r z h = (refl, refl)
all-two v true false r z h = cc h
all-two v false y r z h = cc h

two-all : (v : Parts) (x y : Bool) → is_release v ≡ true → (z : Bool) → x ≡ true → y ≡ true → ((x && (y && true)) && (is_release v || z)) ≡ true
two-all v x y r z p q = rw (p, q, r) refl

pub caret : CaretLaw
caret v a b c r = (
  λ h.
      let two = all-two v (meets v (at_least a b c [])) (meets v (caret_end a b c)) r (list_any (names_pre v) (limits sign.Caret (full a b c []))) h in
      let g = ge-true v.0 v.1 v.2 a b c (sym (at-least-is v a b c (released v r)) ∙ two.0) in
      (g, kept v a b c (released v r) g two.1),
  λ h.
      two-all v (meets v (at_least a b c [])) (meets v (caret_end a b c)) r (list_any (names_pre v) (limits sign.Caret (full a b c [])))
      (at-least-is v a b c (released v r) ∙ true-ge v.0 v.1 v.2 a b c h.0) (ends v a b c (released v r) h.1),
)
