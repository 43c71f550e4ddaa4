-- Lemmas on package names as paths.
use Rattle.std.proofs.Common.{◌≡◌, ◌≢◌, ℕ, List, [], ◌∷◌, ◌++◌, refl, sym, ap, ◌∙◌, subst, true, false, append_assoc, inl, inr}
use Rattle.std.specs.Prelude.{◌||◌, ◌==◌, if◌then◌else◌, IsTrue}
use Rattle.std.specs.Str.{bytes_eq}
use Rattle.std.specs.Cmp.Derive.{both_true}
use Rattle.std.proofs.lemmas.Bool.{eqb-true}
use Rattle.pn_text.specs.Path.{Path, tail_of, SpellsParts}
use Rattle.pn_text.specs.Name.{is_name_part, is_name, is_reserved, name_path, modules, holds_modules}
use Rattle.pn_text.proofs.Paths.{tail_of-spelled}
use Rattle.pn_text.proofs.NameTexts.{name_law, name_of, part_of_name, no_scope_in_part, name_path-injective, name_cases}
use Rattle.pn_text.proofs.Bools.{neither}

-- the last elements, and what stands before them
pub snoc_same : (xs ys : Path) (a b : List ℕ) → xs ++ a ∷ [] ≡ ys ++ b ∷ [] → (xs ≡ ys) × (a ≡ b)
snoc_same [] [] a b e = (refl, cc)
snoc_same [] (y ∷ []) a b e = cc
snoc_same [] (y ∷ z ∷ ys) a b e = cc
snoc_same (x ∷ []) [] a b e = cc
snoc_same (x ∷ z ∷ xs) [] a b e = cc
snoc_same (x ∷ xs) (y ∷ ys) a b e =
    let tails : xs ++ a ∷ [] ≡ ys ++ b ∷ [] = cc in
    let heads : x ≡ y = cc in
    let rest = snoc_same xs ys a b tails in
    (ap (λ h. h ∷ xs) heads ∙ ap (λ t. y ∷ t) rest.0, rest.1)

-- What a name's path is: a part, or a part in a scope, whose first byte is none of a part's.
pub data Shape : Path → Type 0 where
  single : (x : List ℕ) → IsTrue (is_name_part x) → Shape (x ∷ [])
  double : (x s : List ℕ) → IsTrue (is_name_part x) → IsTrue (is_name_part s) → Shape (x ∷ (64 ∷ s) ∷ [])

pub shape : (n : List ℕ) → is_name n ≡ true → Shape (name_path n)
shape n h = elim (name_cases n (name_of n h)) [
  | inl a ↦ subst Shape (sym a.1) (single n a.0)
  | inr b ↦ subst Shape (sym b.5) (double b.1 b.0 b.3 b.2)
]

-- a name's part is no scope
not_scope : (x s : List ℕ) → IsTrue (is_name_part x) → x ≡ 64 ∷ s → ⊥
not_scope x s h e = no_scope_in_part s (subst (λ y. IsTrue (is_name_part y)) e h)

-- two names' paths with one end are one
same_shape : (p q z f : Path) → Shape p → Shape q → z ++ p ≡ f ++ q → p ≡ q
same_shape _ _ z f (single x h) (single y k) e = ap (λ a. a ∷ []) (snoc_same z f x y e).1
same_shape _ _ z f (single x h) (double y s k l) e = absurd (not_scope x s h (snoc_same z (f ++ y ∷ []) x (64 ∷ s) (e ∙ sym (append_assoc f (y ∷ []) ((64 ∷ s) ∷ [])))).1)
same_shape _ _ z f (double x r h j) (single y k) e = absurd (not_scope y r k (sym (snoc_same (z ++ x ∷ []) f (64 ∷ r) y (append_assoc z (x ∷ []) ((64 ∷ r) ∷ []) ∙ e)).1))
same_shape _ _ z f (double x r h j) (double y s k l) e =
    let last = snoc_same (z ++ x ∷ []) (f ++ y ∷ []) (64 ∷ r) (64 ∷ s) (append_assoc z (x ∷ []) ((64 ∷ r) ∷ []) ∙ e ∙ sym (append_assoc f (y ∷ []) ((64 ∷ s) ∷ []))) in
    ap (λ a. a ∷ (64 ∷ r) ∷ []) (snoc_same z f x y last.0).1 ∙ ap (λ b. y ∷ b ∷ []) last.1

-- and so are the names
pub same_name : (m n : List ℕ) (z f : Path) → is_name m ≡ true → is_name n ≡ true → z ++ name_path m ≡ f ++ name_path n → m ≡ n
same_name m n z f h k e = name_path-injective m n (name_of m h) (name_of n k) (same_shape (name_path m) (name_path n) z f (shape m h) (shape n k) e)

-- no name is a scope
pub no_lone_scope : (p : Path) (s : List ℕ) → Shape p → p ≡ (64 ∷ s) ∷ [] → ⊥
no_lone_scope _ s (single x h) e = not_scope x s h cc
no_lone_scope _ s (double x r h k) e = cc

pub shape_filled : (p : Path) → Shape p → p ≢ []
shape_filled _ (single x h) e = cc
shape_filled _ (double x s h k) e = cc

scoped_parts : (s x : List ℕ) → IsTrue (is_name_part s) → IsTrue (is_name_part x) → SpellsParts (s ++ 47 ∷ x) (x ∷ s ∷ [])
scoped_parts s x h k = record { good = both_true (part_of_name x k) (both_true (part_of_name s h) refl); spelled = refl }

-- the test of reserved parts at a scoped name
reserved_scoped : (n s x : List ℕ) → IsTrue (is_name_part s) → IsTrue (is_name_part x) → n ≡ 64 ∷ (s ++ 47 ∷ x) → is_reserved n ≡ holds_modules (x ∷ s ∷ [])
reserved_scoped n s x h k e = ap is_reserved e ∙ ap holds_modules (tail_of-spelled (s ++ 47 ∷ x) (x ∷ s ∷ []) (scoped_parts s x h k))

not_at : (b : ℕ) (bs : List ℕ) → IsTrue (is_name_part (b ∷ bs)) → (b == 64) ≡ false
not_at b bs h = elim (b == 64) as (λ c. (b == 64) ≡ c → c ≡ false) [
  | true ↦ λ is. absurd (no_scope_in_part bs (subst (λ a. IsTrue (is_name_part (a ∷ bs))) (eqb-true b 64 is) h))
  | false ↦ λ is. refl
] refl

reserved_plain : (n : List ℕ) → IsTrue (is_name_part n) → is_reserved n ≡ holds_modules (name_path n)
reserved_plain [] h = refl
reserved_plain (b ∷ bs) h = ap (λ c. holds_modules (if c then tail_of bs else tail_of (b ∷ bs))) (not_at b bs h)

-- no part of a name's path is `node_modules`
pub name_clean : (n : List ℕ) → is_name n ≡ true → holds_modules (name_path n) ≡ false
name_clean n h =
    let free : is_reserved n ≡ false = ((name_law n).0 h).2 in
    elim (name_cases n (name_of n h)) [
      | inl a ↦ sym (reserved_plain n a.0) ∙ free
      | inr b ↦ ap holds_modules b.5 ∙ ap (λ c. c || false) (neither (bytes_eq b.1 modules) _ (sym (reserved_scoped n b.0 b.1 b.2 b.3 b.4) ∙ free)).0
    ]
