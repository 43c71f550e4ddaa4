-- The elements of joined lists.
use Rattle.std.proofs.Common.{List, [], ◌∷◌, inl, inr, sym, subst}
use Rattle.std.specs.List.{Contains, flat_map}
use Rattle.std.proofs.lemmas.List.Elements.{Contains-append_left, Contains-append_right, Contains-append_cases}
use Rattle.pn_text.proofs.Members.{none_in, in_cons, here, there}

pub in_flat_map : {A B : Type 0} (f : A → List B) (xs : List A) (x : A) (y : B) → Contains xs x → Contains (f x) y → Contains (flat_map f xs) y
in_flat_map f [] x y h k = absurd (none_in x h)
in_flat_map f (z ∷ zs) x y h k = elim (in_cons z zs x h) [
  | inl a ↦ Contains-append_left (f z) (flat_map f zs) y (subst (λ w. Contains (f w) y) (sym a) k)
  | inr b ↦ Contains-append_right (f z) (flat_map f zs) y (in_flat_map f zs x y b k)
]

pub from_flat_map : {A B : Type 0} (f : A → List B) (xs : List A) (y : B) → Contains (flat_map f xs) y → (x : A) × Contains xs x × Contains (f x) y
from_flat_map f [] y h = absurd (none_in y h)
from_flat_map f (x ∷ xs) y h = elim (Contains-append_cases (f x) (flat_map f xs) y h) [
  | inl a ↦ (x, here x xs, a)
  | inr b ↦ let rest = from_flat_map f xs y b in (rest.0, there x xs rest.0 rest.1, rest.2)
]
