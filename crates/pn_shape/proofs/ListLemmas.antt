-- Lemmas on members and places of lists.
use Rattle.std.proofs.Common.{◌≡◌, ℕ, zero, suc, List, [], ◌∷◌, Some, map, refl, ap, subst, inl, inr}
use Rattle.std.specs.Prelude.{slice_get}
use Rattle.std.specs.List.{Contains}
use Rattle.std.proofs.lemmas.Option.{none-some, same_Some}
use Rattle.pn_text.proofs.Members.{none_in, in_cons, here, there}

-- where a member is
pub place_in : {X : Type 0} (xs : List X) (x : X) → Contains xs x → (k : ℕ) × (slice_get xs k ≡ Some x)
place_in [] x h = absurd (none_in x h)
place_in (y ∷ ys) x h = elim (in_cons y ys x h) [
  | inl e ↦ (0, ap Some e)
  | inr c ↦ let r = place_in ys x c in (suc r.0, r.1)
]

pub at_place : {X : Type 0} (xs : List X) (k : ℕ) (x : X) → slice_get xs k ≡ Some x → Contains xs x
at_place [] k x h = absurd (none-some x h)
at_place (y ∷ ys) zero x h = subst (Contains (y ∷ ys)) (same_Some y x h) (here y ys)
at_place (y ∷ ys) (suc k) x h = there y ys x (at_place ys k x h)

-- what is at a place of an image
pub get_from_map : {X Y : Type 0} (f : X → Y) (xs : List X) (k : ℕ) (y : Y) → slice_get (map f xs) k ≡ Some y → (x : X) × (slice_get xs k ≡ Some x) × (f x ≡ y)
get_from_map f [] k y h = absurd (none-some y h)
get_from_map f (x ∷ xs) zero y h = (x, refl, same_Some (f x) y h)
get_from_map f (x ∷ xs) (suc k) y h = get_from_map f xs k y h

pub get_to_map : {X Y : Type 0} (f : X → Y) (xs : List X) (k : ℕ) (x : X) → slice_get xs k ≡ Some x → slice_get (map f xs) k ≡ Some (f x)
get_to_map f [] k x h = absurd (none-some x h)
get_to_map f (y ∷ xs) zero x h = ap (λ z. Some (f z)) (same_Some y x h)
get_to_map f (y ∷ xs) (suc k) x h = get_to_map f xs k x h
