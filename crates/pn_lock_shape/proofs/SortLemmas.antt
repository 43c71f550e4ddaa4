-- A list in byte order of its keys.
use Rattle.std.proofs.Common.{◌≡◌, ℕ, zero, suc, ◌+◌, ◌<◌, ◌≤◌, Bool, true, false, cond, List, [], ◌∷◌, length, get_or, map, refl, sym, ap, ◌∙◌, subst, inl, inr, arith}
use Rattle.std.specs.Prelude.{◌⊎◌, IsPermutation}
use Rattle.std.specs.List.{All, AllByRecursion, sum_by}
use Rattle.std.specs.List.Sorted.{IsSortedBy, IsStrictlySortedBy}
use Rattle.std.specs.Cmp.Lexicographic.{slice_cmp}
use Rattle.std.specs.Ordering.{is_lt, nat_cmp, ordering_reverse}
use Rattle.std.specs.declared.cmp.Ordering.{Ordering}
use Rattle.std.specs.declared.cmp.Ordering.TheVariants.{Less, Equal, Greater}
use Rattle.std.specs.Str.{bytes_eq}
use Rattle.std.proofs.lemmas.Cmp.{nat_list_cmp_total}
use Rattle.std.proofs.lemmas.List.Sorted.{IsPermutation-sym, sum_by-IsPermutation}
use Rattle.std.proofs.lemmas.List.Sums.{sum_by-cons}
use Rattle.std.proofs.lemmas.Slice.Eq.{bytes_eq-Decides}
use Rattle.std.proofs.lemmas.Map.Lookups.{exact_bytes}
use Rattle.std.proofs.lemmas.Map.Views.{All-map-IsPermutation}
use Rattle.pn_text.proofs.Orders.{not_before_self, not_both_before}
use Rattle.pn_lock_shape.specs.Keys.{Once}
use Rattle.pn_lock.specs.Kept.{Rises}
use Rattle.pn_lock_shape.specs.Shapes.{insert, in_order}
use Rattle.pn_lock.proofs.KeptLemmas.{itself, map_same}

abbrev pub In : {A : Type 0} → List A → A → Type 0
In [] z = ⊥
In (x ∷ xs) z = (x ≡ z) ⊎ In xs z

in_insert : {A : Type 0} (key : A → List ℕ) (x : A) (ys : List A) (z : A) → In (x ∷ ys) z → In (insert key x ys) z
in_insert key x [] z h = h
in_insert key x (y ∷ ys) z h = elim (is_lt (slice_cmp nat_cmp (key y) (key x))) as (λ o. In (cond o (y ∷ insert key x ys) (x ∷ y ∷ ys)) z) [
  | true ↦ elim h [ inl e ↦ inr (in_insert key x ys z (inl e)) | inr g ↦ elim g [ inl e ↦ inl e | inr k ↦ inr (in_insert key x ys z (inr k)) ] ]
  | false ↦ h
]

out_insert : {A : Type 0} (key : A → List ℕ) (x : A) (ys : List A) (z : A) → In (insert key x ys) z → In (x ∷ ys) z
out_insert key x [] z h = h
out_insert key x (y ∷ ys) z h = (elim (is_lt (slice_cmp nat_cmp (key y) (key x))) as (λ o. In (cond o (y ∷ insert key x ys) (x ∷ y ∷ ys)) z → In (x ∷ y ∷ ys) z) [
  | true ↦ λ g. elim g [ inl e ↦ inr (inl e) | inr k ↦ elim (out_insert key x ys z k) [ inl e ↦ inl e | inr m ↦ inr (inr m) ] ]
  | false ↦ λ g. g
]) h

in_sorted : {A : Type 0} (key : A → List ℕ) (xs : List A) (z : A) → In xs z → In (in_order key xs) z
in_sorted key [] z h = h
in_sorted key (x ∷ xs) z (inl e) = in_insert key x (in_order key xs) z (inl e)
in_sorted key (x ∷ xs) z (inr h) = in_insert key x (in_order key xs) z (inr (in_sorted key xs z h))

out_sorted : {A : Type 0} (key : A → List ℕ) (xs : List A) (z : A) → In (in_order key xs) z → In xs z
out_sorted key [] z h = h
out_sorted key (x ∷ xs) z h = elim (out_insert key x (in_order key xs) z h) [ inl e ↦ inl e | inr k ↦ inr (out_sorted key xs z k) ]

all_insert : {A : Type 0} (P : List ℕ → Type 0) (key : A → List ℕ) (x : A) (ys : List A) → P (key x) → AllByRecursion P (map key ys) → AllByRecursion P (map key (insert key x ys))
all_insert P key x [] p h = (p, tt)
all_insert P key x (y ∷ ys) p h = elim (is_lt (slice_cmp nat_cmp (key y) (key x))) as (λ o. AllByRecursion P (map key (cond o (y ∷ insert key x ys) (x ∷ y ∷ ys)))) [
  | true ↦ (h.0, all_insert P key x ys p h.1)
  | false ↦ (p, h)
]

all_sorted : {A : Type 0} (P : List ℕ → Type 0) (key : A → List ℕ) (xs : List A) → AllByRecursion P (map key xs) → AllByRecursion P (map key (in_order key xs))
all_sorted P key [] h = tt
all_sorted P key (x ∷ xs) h = all_insert P key x (in_order key xs) h.0 (all_sorted P key xs h.1)

-- all above the one are above what is below it
pub all_above : (j k : List ℕ) (ks : List (List ℕ)) → slice_cmp nat_cmp j k ≡ Less → AllByRecursion (λ y. slice_cmp nat_cmp k y ≡ Less) ks → AllByRecursion (λ y. slice_cmp nat_cmp j y ≡ Less) ks
all_above j k [] l h = tt
all_above j k (y ∷ ks) l h = (nat_list_cmp_total.trans j k y l h.0, all_above j k ks l h.1)

-- a key that isn't among rising ones goes to its place
insert_rises : {A : Type 0} (key : A → List ℕ) (x : A) (ys : List A) → Rises (map key ys) → AllByRecursion (λ y. bytes_eq y (key x) ≡ false) (map key ys) → Rises (map key (insert key x ys))
unfolding IsStrictlySortedBy
insert_rises key x [] r n = (tt, tt)
insert_rises key x (y ∷ ys) r n = go (slice_cmp nat_cmp (key y) (key x)) refl (insert_rises key x ys r.1 n.1) where
  go : (o : Ordering) → slice_cmp nat_cmp (key y) (key x) ≡ o → Rises (map key (insert key x ys)) → Rises (map key (cond (is_lt o) (y ∷ insert key x ys) (x ∷ y ∷ ys)))
  go Less e s = (all_insert (λ z. slice_cmp nat_cmp (key y) z ≡ Less) key x ys e r.0, s)
  go Equal e s = absurd (cc (n.0, ap (λ z. bytes_eq z (key x)) (exact_bytes (key y) (key x) e), itself (key x)))
  go Greater e s = let l = nat_list_cmp_total.antisymm (key x) (key y) ∙ ap ordering_reverse e in ((l, all_above (key x) (key y) (map key ys) l r.0), r)

pub sorted_rises : {A : Type 0} (key : A → List ℕ) (xs : List A) → Once (map key xs) → Rises (map key (in_order key xs))
unfolding IsStrictlySortedBy
sorted_rises key [] h = tt
sorted_rises key (x ∷ xs) h = insert_rises key x (in_order key xs) (sorted_rises key xs h.1) (all_sorted (λ y. bytes_eq y (key x) ≡ false) key xs h.0)

all_at : {A : Type 0} (P : List ℕ → Type 0) (key : A → List ℕ) (xs : List A) (z : A) → AllByRecursion P (map key xs) → In xs z → P (key z)
all_at P key [] z h i = absurd i
all_at P key (x ∷ xs) z h (inl e) = subst (λ y. P (key y)) e h.0
all_at P key (x ∷ xs) z h (inr i) = all_at P key xs z h.1 i

-- rising lists with the same members are one
pub rising_same : {A : Type 0} (key : A → List ℕ) (xs ys : List A) → Rises (map key xs) → Rises (map key ys) → ((z : A) → In xs z → In ys z) → ((z : A) → In ys z → In xs z) → xs ≡ ys
unfolding IsStrictlySortedBy
rising_same key [] [] r s f g = refl
rising_same key [] (y ∷ ys) r s f g = absurd (g y (inl refl))
rising_same key (x ∷ xs) [] r s f g = absurd (f x (inl refl))
rising_same key (x ∷ xs) (y ∷ ys) r s f g =
    let above_x : (z : _) → In xs z → slice_cmp nat_cmp (key x) (key z) ≡ Less = λ z h. all_at (λ k. slice_cmp nat_cmp (key x) k ≡ Less) key xs z r.0 h in
    let above_y : (z : _) → In ys z → slice_cmp nat_cmp (key y) (key z) ≡ Less = λ z h. all_at (λ k. slice_cmp nat_cmp (key y) k ≡ Less) key ys z s.0 h in
    let heads : x ≡ y = elim (f x (inl refl)) [
      | inl e ↦ sym e
      | inr hx ↦ elim (g y (inl refl)) [ inl e ↦ e | inr hy ↦ absurd (not_both_before (key x) (key y) (above_x y hy) (above_y x hx)) ]
    ] in
    let there : (z : _) → In xs z → In ys z = λ z h. elim (f z (inr h)) [
      | inl e ↦ absurd (not_before_self (key x) (subst (λ w. slice_cmp nat_cmp (key x) (key w) ≡ Less) (sym (heads ∙ e)) (above_x z h)))
      | inr k ↦ k
    ] in
    let here : (z : _) → In ys z → In xs z = λ z h. elim (g z (inr h)) [
      | inl e ↦ absurd (not_before_self (key y) (subst (λ w. slice_cmp nat_cmp (key y) (key w) ≡ Less) (sym (sym heads ∙ e)) (above_y z h)))
      | inr k ↦ k
    ] in
    ap (λ w. w ∷ xs) heads ∙ ap (λ ws. y ∷ ws) (rising_same key xs ys r.1 s.1 there here)

-- members by places
at_in : {A : Type 0} (xs : List A) (k : ℕ) (d : A) → k < length xs → In xs (get_or xs k d)
at_in [] k d l = absurd (omega (arith, l))
at_in (x ∷ xs) zero d l = inl refl
at_in (x ∷ xs) (suc k) d l = inr (at_in xs k d (omega (arith, l)))

all_in : {A : Type 0} (P : A → Type 0) (xs : List A) → All P xs → (z : A) → In xs z → P z
all_in P [] h z i = absurd i
all_in P (x ∷ xs) h z (inl e) = subst P e (h 0 x (omega arith))
all_in P (x ∷ xs) h z (inr i) = all_in P xs (λ k d l. h (suc k) d (omega (arith, l))) z i

pub permuted : {A : Type 0} (xs ys : List A) → IsPermutation xs ys → (z : A) → In ys z → In xs z
permuted xs ys p z i =
    all_in (In xs) ys (subst (All (In xs)) (map_same ys) (All-map-IsPermutation (λ x. x) (In xs) xs ys p (subst (All (In xs)) (sym (map_same xs)) (λ k d l. at_in xs k d l)))) z i

-- what a sort makes of keys that stand once, where it is seen that they rise
pub sorted_same : {A : Type 0} (key : A → List ℕ) (xs ys : List A) → IsPermutation xs ys → Once (map key xs) → Rises (map key ys) → ys ≡ in_order key xs
sorted_same key xs ys p once rise =
    rising_same key ys (in_order key xs) rise (sorted_rises key xs once)
    (λ z h. in_sorted key xs z (permuted xs ys p z h))
    (λ z h. permuted ys xs (IsPermutation-sym xs ys p) z (out_sorted key xs z h))

-- how many have this key
times : {A : Type 0} → (A → List ℕ) → List ℕ → A → ℕ
times key k x = cond (bytes_eq (key x) k) 1 0

none_there : {A : Type 0} (key : A → List ℕ) (k : List ℕ) (xs : List A) → AllByRecursion (λ y. bytes_eq y k ≡ false) (map key xs) → sum_by (times key k) xs ≡ 0
unfolding times
none_there key k [] h = refl
none_there key k (x ∷ xs) h = sum_by-cons (times key k) x xs ∙ ap (λ o. cond o 1 0 + sum_by (times key k) xs) h.0 ∙ omega (arith, none_there key k xs h.1)

at_most_one : {A : Type 0} (key : A → List ℕ) (k : List ℕ) (xs : List A) → Once (map key xs) → sum_by (times key k) xs ≤ 1
unfolding times
at_most_one key k [] h = omega arith
at_most_one key k (x ∷ xs) h = subst (λ n. n ≤ 1) (sym (sum_by-cons (times key k) x xs)) (go (bytes_eq (key x) k) refl (at_most_one key k xs h.1)) where
  go : (o : Bool) → bytes_eq (key x) k ≡ o → sum_by (times key k) xs ≤ 1 → cond o 1 0 + sum_by (times key k) xs ≤ 1
  go true e so =
      let same : key x ≡ k = (bytes_eq-Decides (key x) k).0 e in
      omega (arith, none_there key k xs (subst (λ z. AllByRecursion (λ y. bytes_eq y z ≡ false) (map key xs)) same h.0))
  go false e so = omega (arith, so)

all_other : {A : Type 0} (key : A → List ℕ) (k : List ℕ) (xs : List A) → sum_by (times key k) xs ≤ 0 → AllByRecursion (λ y. bytes_eq y k ≡ false) (map key xs)
unfolding times
all_other key k [] h = tt
all_other key k (x ∷ xs) h =
    let s : cond (bytes_eq (key x) k) 1 0 + sum_by (times key k) xs ≤ 0 = subst (λ n. n ≤ 0) (sum_by-cons (times key k) x xs) h in
    (go (bytes_eq (key x) k) refl s, all_other key k xs (omega (arith, s)))
  where
    go : (o : Bool) → bytes_eq (key x) k ≡ o → cond o 1 0 + sum_by (times key k) xs ≤ 0 → bytes_eq (key x) k ≡ false
    go true e so = absurd (omega (arith, so))
    go false e so = e

once_from : {A : Type 0} (key : A → List ℕ) (ys : List A) → ((k : List ℕ) → sum_by (times key k) ys ≤ 1) → Once (map key ys)
unfolding times
once_from key [] h = tt
once_from key (y ∷ ys) h =
    let own : cond (bytes_eq (key y) (key y)) 1 0 + sum_by (times key (key y)) ys ≤ 1 = subst (λ n. n ≤ 1) (sum_by-cons (times key (key y)) y ys) (h (key y)) in
    let one : 1 + sum_by (times key (key y)) ys ≤ 1 = subst (λ o. cond o 1 0 + sum_by (times key (key y)) ys ≤ 1) (itself (key y)) own in
    (all_other key (key y) ys (omega (arith, one)), once_from key ys (λ k. let s = subst (λ n. n ≤ 1) (sum_by-cons (times key k) y ys) (h k) in omega (arith, s)))

-- what a sort ensures of a list in which no key stands twice
pub strict : {A : Type 0} (key : A → List ℕ) (ys : List A) → Once (map key ys) → IsSortedBy (λ a b. is_lt (slice_cmp nat_cmp (key a) (key b))) ys → Rises (map key ys)
unfolding IsStrictlySortedBy
strict key [] o s = tt
strict key (y ∷ []) o s = (tt, tt)
strict key (y ∷ z ∷ ys) o s =
    let rest = strict key (z ∷ ys) o.1 (λ k d low high. subst (λ j. is_lt (slice_cmp nat_cmp (key (get_or (y ∷ z ∷ ys) j d)) (key (get_or (z ∷ ys) k d))) ≡ false) (next k) (s (suc k) d (omega arith) (omega (arith, high)))) in
    let less : slice_cmp nat_cmp (key y) (key z) ≡ Less = go (slice_cmp nat_cmp (key z) (key y)) refl (s 0 y (omega arith) (omega arith)) in
    ((less, all_above (key y) (key z) (map key ys) less rest.0), rest)
  where
    next : (k : ℕ) → suc k + 1 ≡ suc (k + 1)
    next k = omega arith

    go : (r : Ordering) → slice_cmp nat_cmp (key z) (key y) ≡ r → is_lt (slice_cmp nat_cmp (key z) (key y)) ≡ false → slice_cmp nat_cmp (key y) (key z) ≡ Less
    go Less e f = absurd (cc (f, ap is_lt e))
    go Equal e f = absurd (cc (o.0.0, ap (λ w. bytes_eq w (key y)) (exact_bytes (key z) (key y) e), itself (key y)))
    go Greater e f = nat_list_cmp_total.antisymm (key y) (key z) ∙ ap ordering_reverse e

pub once_permuted : {A : Type 0} (key : A → List ℕ) (xs ys : List A) → IsPermutation xs ys → Once (map key xs) → Once (map key ys)
once_permuted key xs ys p once = once_from key ys (λ k. subst (λ n. n ≤ 1) (sym (sum_by-IsPermutation (times key k) xs ys p)) (at_most_one key k xs once))

-- a sort by keys that stand once
pub sorted_once : {A : Type 0} (key : A → List ℕ) (xs ys : List A) → IsPermutation xs ys → Once (map key xs) → IsSortedBy (λ a b. is_lt (slice_cmp nat_cmp (key a) (key b))) ys → ys ≡ in_order key xs
sorted_once key xs ys p once s =
    sorted_same key xs ys p once
    (strict key ys (once_permuted key xs ys p once) s)
