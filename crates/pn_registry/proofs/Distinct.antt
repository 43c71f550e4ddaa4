-- Lists without the same element twice.
use Rattle.std.proofs.Common.{◌≡◌, ◌≤◌, ◌+◌, List, [], ◌∷◌, ◌++◌, length, inl, inr, sym, ap, subst, arith, length-append}
use Rattle.std.specs.List.{Contains}
use Rattle.std.proofs.lemmas.List.Elements.{Contains-append_left, Contains-append_right, Contains-append_cases, Contains-push}
use Rattle.pn_text.specs.Path.{Path}
use Rattle.pn_text.proofs.Members.{none_in, in_cons, here, there}
use Rattle.pn_registry.specs.Below.{IsDistinct}

pub distinct_append : (xs ys : List Path) → IsDistinct xs → IsDistinct ys → ((p : Path) → Contains xs p → Contains ys p → ⊥) → IsDistinct (xs ++ ys)
distinct_append [] ys a b apart = b
distinct_append (x ∷ xs) ys a b apart = (
  λ h. elim (Contains-append_cases xs ys x h) [ inl i ↦ a.0 i | inr j ↦ apart x (here x xs) j ],
  distinct_append xs ys a.1 b (λ p i j. apart p (there x xs p i) j),
)

pub distinct_front : (xs ys : List Path) → IsDistinct (xs ++ ys) → IsDistinct xs
distinct_front [] ys h = tt
distinct_front (x ∷ xs) ys h = (λ i. h.0 (Contains-append_left xs ys x i), distinct_front xs ys h.1)

pub distinct_last : (xs : List Path) (q : Path) → IsDistinct (xs ++ q ∷ []) → Contains xs q → ⊥
distinct_last [] q h i = none_in q i
distinct_last (x ∷ xs) q h i = elim (in_cons x xs q i) [
  | inl e ↦ h.0 (subst (λ z. Contains (xs ++ q ∷ []) z) (sym e) (Contains-push xs q))
  | inr j ↦ distinct_last xs q h.1 j
]

-- a list about one of its elements
record About (ys : List Path) (x : Path) : Type 0 where
  front : List Path
  rest : List Path
  is : ys ≡ front ++ x ∷ rest

about : (ys : List Path) (x : Path) → Contains ys x → About ys x
about [] x c = absurd (none_in x c)
about (y ∷ ys) x c = elim (in_cons y ys x c) [
  | inl e ↦ record { front = []; rest = ys; is = ap (λ (z : Path). z ∷ ys) e }
  | inr i ↦ let a = about ys x i in record { front = y ∷ a.front; rest = a.rest; is = ap (λ (l : List Path). y ∷ l) a.is }
]

still : (ys : List Path) (x p : Path) (a : About ys x) → (x ≡ p → ⊥) → Contains ys p → Contains (a.front ++ a.rest) p
still ys x p a other h = elim (Contains-append_cases a.front (x ∷ a.rest) p (subst (λ (l : List Path). Contains l p) a.is h)) [
  | inl i ↦ Contains-append_left a.front a.rest p i
  | inr j ↦ elim (in_cons x a.rest p j) [
    | inl e ↦ absurd (other e)
    | inr i ↦ Contains-append_right a.front a.rest p i
  ]
]

one_less : (ys : List Path) (x : Path) (a : About ys x) → length ys ≡ length (a.front ++ a.rest) + 1
one_less ys x a = omega (arith, ap length a.is, length-append a.front (x ∷ a.rest), length-append a.front a.rest)

-- it isn't longer than one that has all its elements
pub no_longer : (xs ys : List Path) → IsDistinct xs → ((p : Path) → Contains xs p → Contains ys p) → length xs ≤ length ys
no_longer [] ys d h = omega arith
no_longer (x ∷ xs) ys d h =
    let a = about ys x (h x (here x xs)) in
    let rest = no_longer xs (a.front ++ a.rest) d.1 (λ p i. still ys x p a (λ e. d.0 (subst (Contains xs) (sym e) i)) (h p (there x xs p i))) in
    omega (arith, rest, one_less ys x a)
