-- How many of some dep paths pass a test, and their order.
use Rattle.std.proofs.Common.{◌≡◌, ◌<◌, ℕ, zero, suc, ◌+◌, List, [], ◌∷◌, ◌++◌, length, get_or, take, drop, Bool, true, false, cond, refl, sym, ap, ◌∙◌, arith}
use Rattle.std.specs.Prelude.{◌&&◌, bytes_eq, sum_by}
use Rattle.std.specs.List.{IsDistinct}
use Rattle.std.specs.List.Sorted.{IsPermutation, IsSorted}
use Rattle.std.specs.Ordering.{is_lt, nat_cmp, ordering_reverse}
use Rattle.std.specs.declared.cmp.Ordering.{Ordering}
use Rattle.std.specs.declared.cmp.Ordering.TheVariants.{Less, Equal, Greater}
use Rattle.std.specs.Cmp.Lexicographic.{slice_cmp}
use Rattle.std.proofs.lemmas.Cmp.{nat_list_cmp_total, tied_itself}
use Rattle.std.proofs.lemmas.List.{get_or-take, get_or-drop, length-take-le, length-drop, take-append-drop}
use Rattle.std.proofs.lemmas.List.Sorted.{ranks_by, sorted_far, sum_by-IsPermutation}
use Rattle.std.proofs.lemmas.List.Sums.{sum_by-cons}
use Rattle.std.proofs.lemmas.Map.Keys.{apart_from_distinct}
use Rattle.std.proofs.lemmas.Map.Lookups.{exact_bytes}
use Rattle.pn_deppath.specs.Folders.{count_of, earlier, is_earlier}
use Rattle.pn_deppath.proofs.NumberingLemmas.{itself}

pub count-append : (f : List ℕ → Bool) (xs ys : List (List ℕ)) → count_of f (xs ++ ys) ≡ count_of f xs + count_of f ys
count-append f [] ys = omega arith
count-append f (x ∷ xs) ys = more (f x) (count-append f xs ys) where
  more : (b : Bool) → count_of f (xs ++ ys) ≡ count_of f xs + count_of f ys → cond b (suc (count_of f (xs ++ ys))) (count_of f (xs ++ ys)) ≡ cond b (suc (count_of f xs)) (count_of f xs) + count_of f ys
  more true e = omega (arith, e)
  more false e = e

count_same : (f g : List ℕ → Bool) (xs : List (List ℕ)) → ((k : ℕ) → k < length xs → f (get_or xs k []) ≡ g (get_or xs k [])) → count_of f xs ≡ count_of g xs
count_same f g [] h = refl
count_same f g (x ∷ xs) h =
    let first : f x ≡ g x = h 0 (omega arith) in
    let rest : count_of f xs ≡ count_of g xs = count_same f g xs (λ k lt. h (suc k) (omega (arith, lt))) in
    ap (λ (b : Bool). cond b (suc (count_of f xs)) (count_of f xs)) first ∙ ap (λ (n : ℕ). cond (g x) (suc n) n) rest

count_none : (f : List ℕ → Bool) (xs : List (List ℕ)) → ((k : ℕ) → k < length xs → f (get_or xs k []) ≡ false) → count_of f xs ≡ 0
count_none f [] h = refl
count_none f (x ∷ xs) h = ap (λ (b : Bool). cond b (suc (count_of f xs)) (count_of f xs)) (h 0 (omega arith)) ∙ count_none f xs (λ k lt. h (suc k) (omega (arith, lt)))

count_sum : (f : List ℕ → Bool) (xs : List (List ℕ)) → count_of f xs ≡ sum_by (λ (x : List ℕ). cond (f x) 1 0) xs
count_sum f [] = refl
count_sum f (x ∷ xs) = more (f x) (count_sum f xs) ∙ sym (sum_by-cons (λ (y : List ℕ). cond (f y) 1 0) x xs) where
  more : (b : Bool) → count_of f xs ≡ sum_by (λ (y : List ℕ). cond (f y) 1 0) xs → cond b (suc (count_of f xs)) (count_of f xs) ≡ cond b 1 0 + sum_by (λ (y : List ℕ). cond (f y) 1 0) xs
  more true e = omega (arith, e)
  more false e = omega (arith, e)

pub count-permutation : (f : List ℕ → Bool) (xs ys : List (List ℕ)) → IsPermutation xs ys → count_of f ys ≡ count_of f xs
count-permutation f xs ys p = count_sum f ys ∙ sum_by-IsPermutation (λ (x : List ℕ). cond (f x) 1 0) xs ys p ∙ sym (count_sum f xs)

-- ---- order

less_by : (x y : List ℕ) (o : Ordering) → slice_cmp nat_cmp x y ≡ o → bytes_eq x y ≡ false → is_lt (slice_cmp nat_cmp y x) ≡ false → o ≡ Less
less_by x y Less is apart far = refl
less_by x y Equal is apart far = absurd (let same = ap (bytes_eq x) (sym (exact_bytes x y is)) in let own = itself x in cc (same, own, apart))
less_by x y Greater is apart far = absurd (let back : slice_cmp nat_cmp y x ≡ Less = nat_list_cmp_total.antisymm y x ∙ ap ordering_reverse is in let low = ap is_lt back in cc (low, far))

-- sorted texts that differ rise
pub rises : (xs : List (List ℕ)) → IsSorted (slice_cmp nat_cmp) xs → IsDistinct bytes_eq xs → (i j : ℕ) → i < j → j < length xs → slice_cmp nat_cmp (get_or xs i []) (get_or xs j []) ≡ Less
rises xs sorted distinct i j less within =
    less_by (get_or xs i []) (get_or xs j []) (slice_cmp nat_cmp (get_or xs i []) (get_or xs j [])) refl (apart_from_distinct bytes_eq xs i j [] distinct less within)
    (sorted_far (λ (x y : List ℕ). is_lt (slice_cmp nat_cmp x y)) (ranks_by nat_list_cmp_total (λ (x : List ℕ). x)) xs sorted i j [] (omega (arith, less)) within)

-- what comes later isn't earlier
not_earlier : (named : List ℕ → List ℕ) (p x : List ℕ) → is_lt (slice_cmp nat_cmp x p) ≡ false → is_earlier named p x ≡ false
not_earlier named p x h = ap (λ (o : Bool). o && bytes_eq (named x) (named p)) h

later : (p x : List ℕ) → slice_cmp nat_cmp p x ≡ Less → is_lt (slice_cmp nat_cmp x p) ≡ false
later p x h = ap is_lt (nat_list_cmp_total.antisymm x p ∙ ap ordering_reverse h)

-- of rising dep paths those before one with its name are the earlier ones
pub count_before : (named : List ℕ → List ℕ) (xs : List (List ℕ)) → ((i j : ℕ) → i < j → j < length xs → slice_cmp nat_cmp (get_or xs i []) (get_or xs j []) ≡ Less)
    → (i : ℕ) → i < length xs → earlier named xs (get_or xs i []) ≡ count_of (λ x. bytes_eq (named x) (named (get_or xs i []))) (take i xs)
count_before named xs up i within =
    let p = get_or xs i [] in
    let long : length (take i xs) ≡ i = length-take-le i xs (omega (arith, within)) in
    let front = count_same (is_earlier named p) (λ x. bytes_eq (named x) (named p)) (take i xs) (λ k lt.
    let low : k < i = omega (arith, lt, long) in
    let at = get_or-take i xs k [] low in
    ap (λ (x : List ℕ). is_earlier named p x) at ∙ ap (λ (o : Ordering). is_lt o && bytes_eq (named (get_or xs k [])) (named p)) (up k i low within) ∙ ap (λ (x : List ℕ). bytes_eq (named x) (named p)) (sym at)) in
    let back = count_none (is_earlier named p) (drop i xs) (λ k lt.
    let at = get_or-drop i xs k [] in
    ap (is_earlier named p) at ∙ rest k (omega (arith, lt, length-drop i xs))) in
    ap (count_of (is_earlier named p)) (sym (take-append-drop i xs)) ∙ count-append (is_earlier named p) (take i xs) (drop i xs)
    ∙ ap (λ (n : ℕ). count_of (is_earlier named p) (take i xs) + n) back ∙ zero_right (count_of (is_earlier named p) (take i xs)) ∙ front where
      zero_right : (n : ℕ) → n + 0 ≡ n
      zero_right n = omega arith

      rest : (k : ℕ) → i + k < length xs → is_earlier named (get_or xs i []) (get_or xs (i + k) []) ≡ false
      rest zero lt = not_earlier named (get_or xs i []) (get_or xs (i + 0) []) (ap (λ (n : ℕ). is_lt (slice_cmp nat_cmp (get_or xs n []) (get_or xs i []))) (zero_right i) ∙ ap is_lt (tied_itself nat_list_cmp_total (get_or xs i [])))
      rest (suc k) lt = not_earlier named (get_or xs i []) (get_or xs (i + suc k) []) (later (get_or xs i []) (get_or xs (i + suc k) []) (up i (i + suc k) (omega arith) lt))
