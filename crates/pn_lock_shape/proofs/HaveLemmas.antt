-- What holds of what is read.
use Rattle.std.proofs.Common.{◌≡◌, ℕ, true, false, cond, List, [], ◌∷◌, map, refl, subst, Some, None, Ok, Err}
use Rattle.std.specs.Prelude.{◌&&◌, not, Option}
use Rattle.std.specs.List.{AllByRecursion}
use Rattle.std.specs.Cmp.Lexicographic.{slice_cmp}
use Rattle.std.specs.Ordering.{is_lt, nat_cmp}
use Rattle.pn_yaml.specs.Data.{Data, scalar, list, Members, no_members, member, is_among, are_apart, members_apart}
use Rattle.pn_yaml.specs.Data.{map as map_data}
use Rattle.pn_text.proofs.Bools.{and_left, and_right}
use Rattle.pn_lock.specs.Kept.{Rises}
use Rattle.pn_lock_shape.specs.OwnKeys.{ok_same, then_some}
use Rattle.pn_lock_shape.specs.Shapes.{Outcome, ◌>>=◌, at, and_then, each, get, in_order, insert, map_in, members_in, optional, optional_in, required, required_in}
use Rattle.pn_lock_shape.proofs.ApartLemmas.{get_apart, read_once}
use Rattle.pn_lock_shape.proofs.SortLemmas.{sorted_rises}

pub at_same : {A : Type 0} (k : List ℕ) (r : Outcome A) (x : A) → at k r ≡ Ok x → r ≡ Ok x
at_same k (Ok y) x h = h
at_same k (Err e) x h = absurd (cc h)

pub then_same : {A : Type 0} (x : A) (r : Outcome (List A)) (xs : List A) → and_then x r ≡ Ok xs → (ys : List A) × (r ≡ Ok ys) × (x ∷ ys ≡ xs)
then_same x (Ok ys) xs h = (ys, refl, ok_same (x ∷ ys) xs (Ok (x ∷ ys)) refl h)
then_same x (Err e) xs h = absurd (cc h)

all_insert : {A : Type 0} (P : A → Type 0) (key : A → List ℕ) (x : A) (ys : List A) → P x → AllByRecursion P ys → AllByRecursion P (insert key x ys)
all_insert P key x [] p h = (p, tt)
all_insert P key x (y ∷ ys) p h = elim (is_lt (slice_cmp nat_cmp (key y) (key x))) as (λ o. AllByRecursion P (cond o (y ∷ insert key x ys) (x ∷ y ∷ ys))) [
  | true ↦ (h.0, all_insert P key x ys p h.1)
  | false ↦ (p, h)
]

pub all_ordered : {A : Type 0} (P : A → Type 0) (key : A → List ℕ) (xs : List A) → AllByRecursion P xs → AllByRecursion P (in_order key xs)
all_ordered P key [] h = tt
all_ordered P key (x ∷ xs) h = all_insert P key x (in_order key xs) h.0 (all_ordered P key xs h.1)

-- what holds of each entry
all_read : {A : Type 0} (read : List ℕ → Data → Outcome A) (P : A → Type 0) → ((k : List ℕ) (d : Data) (x : A) → are_apart d ≡ true → read k d ≡ Ok x → P x)
    → (seen : List (List ℕ)) (ms : Members) (xs : List A) → members_apart seen ms ≡ true → each read ms ≡ Ok xs → AllByRecursion P xs
all_read read P f seen no_members xs h g = subst (AllByRecursion P) (ok_same [] xs (Ok []) refl g) tt
all_read read P f seen (member k d ms) xs h g =
    let both = and_right (not (is_among k seen)) (are_apart d && members_apart (k ∷ seen) ms) h in
    let one = then_some (at k (read k d)) (λ x. and_then x (each read ms)) xs g in
    let more = then_same one.0 (each read ms) xs one.2 in
    subst (AllByRecursion P) more.2 (
      f k d one.0 (and_left (are_apart d) (members_apart (k ∷ seen) ms) both) (at_same k (read k d) one.0 one.1),
      all_read read P f (k ∷ seen) ms more.0 (and_right (are_apart d) (members_apart (k ∷ seen) ms) both) more.1,
    )

pub members_have : (d : Data) (ms : Members) → members_in d ≡ Ok ms → are_apart d ≡ true → members_apart [] ms ≡ true
members_have (scalar text plain) ms h a = absurd (cc h)
members_have (list ds) ms h a = absurd (cc h)
members_have (map_data ns) ms h a = subst (λ m. members_apart [] m ≡ true) (ok_same ns ms (Ok ns) refl h) a

-- what holds of each entry of a list, and that its keys rise
abbrev pub Have : {A : Type 0} → (A → List ℕ) → (A → Type 0) → List A → Type 0
Have key P xs = AllByRecursion P xs × Rises (map key xs)

pub map_have : {A : Type 0} (key : A → List ℕ) (read : List ℕ → Data → Outcome A) (P : A → Type 0) → ((k : List ℕ) (d : Data) (x : A) → read k d ≡ Ok x → key x ≡ k)
    → ((k : List ℕ) (d : Data) (x : A) → are_apart d ≡ true → read k d ≡ Ok x → P x) → (d : Data) (xs : List A) → are_apart d ≡ true → map_in key read d ≡ Ok xs → Have key P xs
map_have key read P own f d xs a h =
    let m = then_some (members_in d) (λ ms. each read ms >>= λ ys. Ok (in_order key ys)) xs h in
    let e = then_some (each read m.0) (λ ys. Ok (in_order key ys)) xs m.2 in
    let apart = members_have d m.0 m.1 a in
    let same : in_order key e.0 ≡ xs = ok_same (in_order key e.0) xs (Ok (in_order key e.0)) refl e.2 in
    subst (Have key P) same (all_ordered P key e.0 (all_read read P f [] m.0 e.0 apart e.1), sorted_rises key e.0 (read_once read key own m.0 e.0 apart e.1))

pub optional_have : {A : Type 0} (R : A → Type 0) (k : List ℕ) (read : Data → Outcome A) (other : A) (ms : Members) → R other → ((d : Data) (x : A) → are_apart d ≡ true → read d ≡ Ok x → R x)
    → members_apart [] ms ≡ true → (x : A) → optional k read other ms ≡ Ok x → R x
optional_have R k read other ms r f a x h = go (get k ms) refl h where
  go : (o : Option Data) → get k ms ≡ o → optional_in k read other o ≡ Ok x → R x
  go None e g = subst R (ok_same other x (Ok other) refl g) r
  go (Some d) e g = f d x (get_apart k [] ms d a e) (at_same k (read d) x g)

pub required_have : {A : Type 0} (R : A → Type 0) (k : List ℕ) (read : Data → Outcome A) (ms : Members) → ((d : Data) (x : A) → are_apart d ≡ true → read d ≡ Ok x → R x)
    → members_apart [] ms ≡ true → (x : A) → required k read ms ≡ Ok x → R x
required_have R k read ms f a x h = go (get k ms) refl h where
  go : (o : Option Data) → get k ms ≡ o → required_in k read o ≡ Ok x → R x
  go None e g = absurd (cc g)
  go (Some d) e g = f d x (get_apart k [] ms d a e) (at_same k (read d) x g)
