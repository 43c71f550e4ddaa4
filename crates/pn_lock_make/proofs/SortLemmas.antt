-- What is sorted by its keys.
use Rattle.std.proofs.Common.{◌≡◌, ◌<◌, ◌+◌, ℕ, List, [], ◌∷◌, length, map, get_or, nat_cmp, Result, Ok, Err, ap, ◌∙◌, arith, IsPermutation, IsSorted}
use Rattle.std.specs.Prelude.{IfOk, bytes_eq}
use Rattle.std.specs.Cmp.Lexicographic.{slice_cmp}
use Rattle.std.specs.List.{IsDistinct}
use Rattle.std.specs.List.Sorted.{IsSortedBy}
use Rattle.std.specs.Ordering.{is_lt}
use Rattle.std.proofs.lemmas.List.{length-map, get_or-map}
use Rattle.std.proofs.lemmas.Map.Keys.{IsDistinct-IsPermutation}
use Rattle.pn_lock.specs.Kept.{Rises}
use Rattle.pn_lock_make.proofs.OrderLemmas.{flips, rise}

pub sorted_keys : {A : Type 0} (key : A → List ℕ) (xs : List A) → IsSortedBy (λ (a b : A). is_lt (slice_cmp nat_cmp (key a) (key b))) xs → IsSorted (slice_cmp nat_cmp) (map key xs)
sorted_keys key [] h = λ k d low high. absurd (omega arith)
sorted_keys {A} key (x ∷ xs) h = λ k d low high.
    let all = x ∷ xs in
    let below : k + 1 < length all = omega (arith, length-map all key, high) in
    let first : k < length all = omega arith in
    let a : get_or (map key all) k d ≡ key (get_or all k x) = get_or-map key all k x d first in
    let b : get_or (map key all) (k + 1) d ≡ key (get_or all (k + 1) x) = get_or-map key all (k + 1) x d below in
    ap (λ (y : List ℕ). is_lt (slice_cmp nat_cmp y (get_or (map key all) k d))) b ∙ ap (λ (y : List ℕ). is_lt (slice_cmp nat_cmp (key (get_or all (k + 1) x)) y)) a ∙ h k x low below

-- a sort of keys that stand once
pub sorted_rise : {V E : Type 0} (f : V → List (List ℕ)) (keys : List (List ℕ)) (r : Result V E) → IsDistinct bytes_eq keys → IfOk r (λ v. IsSorted (slice_cmp nat_cmp) (f v)) → IfOk r (λ v. IsPermutation keys (f v)) → IfOk r (λ v. Rises (f v))
sorted_rise f keys (Ok v) once sorted same = rise (f v) (IsDistinct-IsPermutation bytes_eq flips keys (f v) same once) sorted
sorted_rise f keys (Err e) once sorted same = tt
