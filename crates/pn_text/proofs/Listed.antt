-- Lemmas on the numbers of calls that fail, which are searched in order.
use Rattle.std.proofs.Common.{◌≡◌, ◌≢◌, ℕ, ◌<◌, ◌≤◌, List, length, get_or, sym, eq-eqb, arith, Ok, Err}
use Rattle.std.specs.Prelude.{Result, is_ok, ◌==◌}
use Rattle.std.specs.List.Sorted.{IsBinarySearchResult, IsNonDecreasing}
use Rattle.std.specs.Ordering.{nat_cmp}
use Rattle.std.proofs.lemmas.Bool.{ne_eqb}
use Rattle.std.proofs.lemmas.List.{get_or_default}
use Rattle.std.proofs.lemmas.List.Folds.{list_any_at, list_any_none}
use Rattle.std.proofs.lemmas.List.Sorted.{searched}
use Rattle.pn_text.specs.Causes.{is_listed}

apart : (xs : List ℕ) (x i k d : ℕ) → k < length xs → ((j : ℕ) → j < i → get_or xs j 0 < x) → ((j : ℕ) → i ≤ j → j < length xs → x < get_or xs j 0) → get_or xs k d ≢ x
apart xs x i k d within below above same =
    let zero_too = get_or_default xs k d 0 within in
    let low : k < i → get_or xs k 0 < x = below k in
    let high : i ≤ k → x < get_or xs k 0 = λ h. above k h within in
    grind (arith, zero_too, low, high, same)

pub found : (xs : List ℕ) (x : ℕ) (r : Result ℕ ℕ) → IsBinarySearchResult (λ y. nat_cmp y x) xs r → IsNonDecreasing xs → is_ok r ≡ is_listed xs x
found xs x (Ok i) h rising =
    let at = searched xs x (Ok i) h (λ a b. rising a b 0) in
    sym (list_any_at (λ m. m == x) xs i 0 at.0 (eq-eqb (get_or xs i 0) x at.1))
found xs x (Err i) h rising =
    let at = searched xs x (Err i) h (λ a b. rising a b 0) in
    sym (list_any_none (λ m. m == x) xs (λ k d within. ne_eqb (get_or xs k d) x (apart xs x i k d within at.1 at.2)))
