-- Texts in byte order.
use Rattle.std.proofs.Common.{◌≡◌, ◌≢◌, ◌<◌, ◌+◌, ℕ, List, [], ◌∷◌, ◌++◌, true, false, Ordering, Less, Equal, Greater, nat_cmp, map, length, get_or, inl, inr, refl, sym, ap, ◌∙◌, subst, arith, IsSorted, length-append}
use Rattle.std.specs.Cmp.Lexicographic.{slice_cmp}
use Rattle.std.specs.List.{Contains}
use Rattle.std.specs.List.Sorted.{IsStrictlySortedBy}
use Rattle.std.specs.Ordering.{is_eq, is_lt, ordering_reverse}
use Rattle.std.proofs.lemmas.Cmp.{nat_list_cmp_total, tied_itself}
use Rattle.std.proofs.lemmas.List.{get_or-append-add}
use Rattle.std.proofs.lemmas.List.Elements.{All-contains, All-from_recursion}
use Rattle.std.proofs.lemmas.List.Sorted.{ranks_by, sorted_far}
use Rattle.std.proofs.lemmas.Map.Text.{is_eq-slice_cmp}
use Rattle.std.proofs.lemmas.Slice.Eq.{bytes_eq-Decides}
use Rattle.pn_text.proofs.Members.{here, in_cons, none_in, there, to_map}

-- a text that comes before another one comes after none of it
flipped : (x y : List ℕ) → slice_cmp nat_cmp x y ≡ Greater → is_lt (slice_cmp nat_cmp y x) ≡ true
flipped x y h = ap is_lt (nat_list_cmp_total.antisymm y x ∙ ap ordering_reverse h)

-- texts of which neither comes first
pub one_text : (x y : List ℕ) → is_lt (slice_cmp nat_cmp x y) ≡ false → is_lt (slice_cmp nat_cmp y x) ≡ false → x ≡ y
one_text x y a b = by_order (slice_cmp nat_cmp x y) refl where
  by_order : (o : Ordering) → slice_cmp nat_cmp x y ≡ o → x ≡ y
  by_order Less h = let no : true ≡ false = sym (ap is_lt h) ∙ a in cc
  by_order Equal h = (bytes_eq-Decides x y).0 (sym (is_eq-slice_cmp x y) ∙ ap is_eq h)
  by_order Greater h = let no : true ≡ false = sym (flipped x y h) ∙ b in cc

pub below_text : (x y : List ℕ) → is_lt (slice_cmp nat_cmp y x) ≡ false → x ≢ y → slice_cmp nat_cmp x y ≡ Less
below_text x y up apart = by_order (slice_cmp nat_cmp x y) refl where
  by_order : (o : Ordering) → slice_cmp nat_cmp x y ≡ o → o ≡ Less
  by_order Less h = refl
  by_order Equal h = absurd (apart (one_text x y (ap is_lt h) up))
  by_order Greater h = let no : true ≡ false = sym (flipped x y h) ∙ up in cc

-- the first one of sorted texts comes before or with each other one
pub not_before : (x : List ℕ) (xs : List (List ℕ)) (y : List ℕ) → IsSorted (slice_cmp nat_cmp) (x ∷ xs) → Contains xs y → is_lt (slice_cmp nat_cmp y x) ≡ false
not_before x xs y sorted c =
    let within : c.0 < length xs = c.1 in
    let many : length (x ∷ xs) ≡ 1 + length xs = length-append (x ∷ []) xs in
    let at : get_or (x ∷ xs) (1 + c.0) y ≡ y = get_or-append-add (x ∷ []) xs c.0 y ∙ c.2 in
    subst (λ (z : List ℕ). is_lt (slice_cmp nat_cmp z x) ≡ false) at
    (sorted_far (λ x y. is_lt (slice_cmp nat_cmp x y)) (ranks_by nat_list_cmp_total (λ (x : List ℕ). x)) (x ∷ xs) sorted 0 (1 + c.0) y (omega arith) (omega (arith, within, many)))

pub sorted_tail : (x : List ℕ) (xs : List (List ℕ)) → IsSorted (slice_cmp nat_cmp) (x ∷ xs) → IsSorted (slice_cmp nat_cmp) xs
sorted_tail x xs h k d low high =
    let many : length (x ∷ xs) ≡ 1 + length xs = length-append (x ∷ []) xs in
    let next : get_or (x ∷ xs) (1 + (k + 1)) d ≡ get_or xs (k + 1) d = get_or-append-add (x ∷ []) xs (k + 1) d in
    let this : get_or (x ∷ xs) (1 + k) d ≡ get_or xs k d = get_or-append-add (x ∷ []) xs k d in
    let place : 1 + k + 1 ≡ 1 + (k + 1) = omega arith in
    sym (ap (λ (z : List ℕ). is_lt (slice_cmp nat_cmp z (get_or xs k d))) (ap (λ n. get_or (x ∷ xs) n d) place ∙ next))
    ∙ sym (ap (λ (z : List ℕ). is_lt (slice_cmp nat_cmp (get_or (x ∷ xs) (1 + k + 1) d) z)) this)
    ∙ h (1 + k) d (omega arith) (omega (arith, high, many))

pub sorted_rest : (front xs : List (List ℕ)) → IsSorted (slice_cmp nat_cmp) (front ++ xs) → IsSorted (slice_cmp nat_cmp) xs
sorted_rest [] xs h = h
sorted_rest (x ∷ front) xs h = sorted_rest front xs (sorted_tail x (front ++ xs) h)

module _ {A : Type 0} (key : A → List ℕ) where
  first_below : (x : A) (xs : List A) → IsStrictlySortedBy (slice_cmp nat_cmp) (map key (x ∷ xs)) → (y : A) → Contains xs y → slice_cmp nat_cmp (key x) (key y) ≡ Less
  unfolding IsStrictlySortedBy
  first_below x xs rising y c =
      All-contains (λ k. slice_cmp nat_cmp (key x) k ≡ Less) (map key xs) (key y) (All-from_recursion (λ k. slice_cmp nat_cmp (key x) k ≡ Less) (map key xs) rising.0) (to_map key xs y c)

  rest : (x : A) (xs : List A) → IsStrictlySortedBy (slice_cmp nat_cmp) (map key (x ∷ xs)) → IsStrictlySortedBy (slice_cmp nat_cmp) (map key xs)
  unfolding IsStrictlySortedBy
  rest x xs rising = rising.1

  not_itself : (x : A) → slice_cmp nat_cmp (key x) (key x) ≡ Less → ⊥
  not_itself x h = let same = tied_itself nat_list_cmp_total (key x) in cc (same, h)

  heads : (x y : A) (xs ys : List A) → IsStrictlySortedBy (slice_cmp nat_cmp) (map key (x ∷ xs)) → IsStrictlySortedBy (slice_cmp nat_cmp) (map key (y ∷ ys)) → Contains (y ∷ ys) x → Contains (x ∷ xs) y → x ≡ y
  heads x y xs ys a b i j = elim (in_cons y ys x i) [
    | inl e ↦ sym e
    | inr later ↦ elim (in_cons x xs y j) [
      | inl e ↦ e
      | inr also ↦ absurd (not_itself x (nat_list_cmp_total.trans (key x) (key y) (key x) (first_below x xs a y also) (first_below y ys b x later)))
    ]
  ]

  -- what both lists have behind one head
  tails : (x : A) (xs ys : List A) → IsStrictlySortedBy (slice_cmp nat_cmp) (map key (x ∷ xs)) → ((z : A) → Contains (x ∷ xs) z → Contains (x ∷ ys) z) → (z : A) → Contains xs z → Contains ys z
  tails x xs ys rising all z i = elim (in_cons x ys z (all z (there x xs z i))) [
    | inl e ↦ absurd (not_itself x (subst (λ (w : A). slice_cmp nat_cmp (key x) (key w) ≡ Less) (sym e) (first_below x xs rising z i)))
    | inr j ↦ j
  ]

  -- lists that rise and have the same elements are one
  pub one_list : (xs ys : List A) → IsStrictlySortedBy (slice_cmp nat_cmp) (map key xs) → IsStrictlySortedBy (slice_cmp nat_cmp) (map key ys) → ((z : A) → Contains xs z → Contains ys z) → ((z : A) → Contains ys z → Contains xs z) → xs ≡ ys
  one_list [] [] a b to back = refl
  one_list [] (y ∷ ys) a b to back = absurd (none_in y (back y (here y ys)))
  one_list (x ∷ xs) [] a b to back = absurd (none_in x (to x (here x xs)))
  one_list (x ∷ xs) (y ∷ ys) a b to back =
      let head : x ≡ y = heads x y xs ys a b (to x (here x xs)) (back y (here y ys)) in
      let ahead : IsStrictlySortedBy (slice_cmp nat_cmp) (map key (x ∷ ys)) = subst (λ (z : A). IsStrictlySortedBy (slice_cmp nat_cmp) (map key (z ∷ ys))) (sym head) b in
      let more : (z : A) → Contains (x ∷ xs) z → Contains (x ∷ ys) z = subst (λ (w : A). (z : A) → Contains (x ∷ xs) z → Contains (w ∷ ys) z) (sym head) to in
      let less : (z : A) → Contains (x ∷ ys) z → Contains (x ∷ xs) z = subst (λ (w : A). (z : A) → Contains (w ∷ ys) z → Contains (x ∷ xs) z) (sym head) back in
      ap (λ (z : A). z ∷ xs) head ∙ ap (λ (l : List A). y ∷ l) (one_list xs ys (rest x xs a) (rest y ys b) (tails x xs ys a more) (tails x ys xs ahead less))

  -- of a list that rises by keys, elements with one key are one
  pub one_by_key : (xs : List A) → IsStrictlySortedBy (slice_cmp nat_cmp) (map key xs) → (x y : A) → Contains xs x → Contains xs y → key x ≡ key y → x ≡ y
  one_by_key [] rising x y c k e = absurd (none_in x c)
  one_by_key (z ∷ zs) rising x y c k e = elim (in_cons z zs x c) [
    | inl a ↦ elim (in_cons z zs y k) [
      | inl b ↦ sym a ∙ b
      | inr b ↦ absurd (before z zs y rising b (ap key a ∙ e))
    ]
    | inr a ↦ elim (in_cons z zs y k) [
      | inl b ↦ absurd (before z zs x rising a (ap key b ∙ sym e))
      | inr b ↦ one_by_key zs (rest z zs rising) x y a b e
    ]
  ] where
    before : (z : A) (zs : List A) (w : A) → IsStrictlySortedBy (slice_cmp nat_cmp) (map key (z ∷ zs)) → Contains zs w → key z ≡ key w → ⊥
    before z zs w rising c same = not_itself z (subst (λ t. slice_cmp nat_cmp (key z) t ≡ Less) (sym same) (first_below z zs rising w c))
