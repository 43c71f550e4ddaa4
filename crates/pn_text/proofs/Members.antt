-- Lemmas on the members of lists.
use Rattle.std.proofs.Common.{◌≡◌, ℕ, List, [], ◌∷◌, ◌++◌, map, refl, arith, Bool, true, inl, inr}
use Rattle.std.specs.Prelude.{◌⊎◌}
use Rattle.std.specs.List.{All, Contains, list_all}
use Rattle.std.specs.Cmp.Derive.{both_true}
use Rattle.std.proofs.lemmas.List.Elements.{All-nil, All-cons, All-head, All-tail, All-weaker, All-map, All-contains, All-contains_itself, Contains-append_left, Contains-append_right, Contains-append_cases, Contains-push, Contains-push_cases}
use Rattle.pn_text.proofs.Bools.{and_left, and_right}

pub none_in : {X : Type 0} (x : X) → Contains [] x → ⊥
none_in x h = absurd (omega (arith, h.1))

pub in_one : {X : Type 0} (y x : X) → Contains (y ∷ []) x → y ≡ x
in_one y x h = elim (Contains-push_cases [] y x h) [ inl i ↦ absurd (none_in x i) | inr e ↦ e ]

pub in_cons : {X : Type 0} (y : X) (xs : List X) (x : X) → Contains (y ∷ xs) x → (y ≡ x) ⊎ Contains xs x
in_cons y xs x h = elim (Contains-append_cases (y ∷ []) xs x h) [ inl i ↦ inl (in_one y x i) | inr j ↦ inr j ]

pub here : {X : Type 0} (x : X) (xs : List X) → Contains (x ∷ xs) x
here x xs = Contains-append_left (x ∷ []) xs x (Contains-push [] x)

pub there : {X : Type 0} (y : X) (xs : List X) (x : X) → Contains xs x → Contains (y ∷ xs) x
there y xs x h = Contains-append_right (y ∷ []) xs x h

pub All-unmap : {X Y : Type 0} (P : X → Type 0) (f : Y → X) (ys : List Y) → All P (map f ys) → All (λ y. P (f y)) ys
All-unmap P f [] h = All-nil (λ y. P (f y))
All-unmap P f (y ∷ ys) h = All-cons (λ y. P (f y)) y ys (All-head P (f y) (map f ys) h) (All-unmap P f ys (All-tail P (f y) (map f ys) h))

pub All-left : {X : Type 0} (P : X → Type 0) (xs ys : List X) → All P (xs ++ ys) → All P xs
All-left P [] ys h = All-nil P
All-left P (x ∷ xs) ys h = All-cons P x xs (All-head P x (xs ++ ys) h) (All-left P xs ys (All-tail P x (xs ++ ys) h))

pub All-right : {X : Type 0} (P : X → Type 0) (xs ys : List X) → All P (xs ++ ys) → All P ys
All-right P [] ys h = h
All-right P (x ∷ xs) ys h = All-right P xs ys (All-tail P x (xs ++ ys) h)

-- a member of an image is one of a member
pub from_map : {X Y : Type 0} (f : X → Y) (xs : List X) (y : Y) → Contains (map f xs) y → (x : X) × Contains xs x × (f x ≡ y)
from_map {X} f xs y c =
    All-contains (λ y. (x : X) × Contains xs x × (f x ≡ y)) (map f xs) y
    (All-map (λ y. (x : X) × Contains xs x × (f x ≡ y)) f xs (All-weaker (Contains xs) (λ z. (x : X) × Contains xs x × (f x ≡ f z)) (λ z c. (z, c, refl)) xs (All-contains_itself xs))) c

pub to_map : {X Y : Type 0} (f : X → Y) (xs : List X) (x : X) → Contains xs x → Contains (map f xs) (f x)
to_map f xs x c = All-contains (λ x. Contains (map f xs) (f x)) xs x (All-unmap (Contains (map f xs)) f xs (All-contains_itself (map f xs))) c

pub all-append : (test : ℕ → Bool) (s t : List ℕ) → list_all test s ≡ true → list_all test t ≡ true → list_all test (s ++ t) ≡ true
all-append test [] t h k = k
all-append test (b ∷ s) t h k = both_true (and_left (test b) (list_all test s) h) (all-append test s t (and_right (test b) (list_all test s) h) k)
