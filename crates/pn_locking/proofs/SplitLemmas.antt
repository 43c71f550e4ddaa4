-- What wishes that rise ask for, by a test.
use Rattle.std.proofs.Common.{◌≡◌, ℕ, Bool, true, false, cond, List, [], ◌∷◌, ◌++◌, map, nat_cmp, refl, sym, ap, ◌∙◌, subst}
use Rattle.std.specs.Prelude.{◌||◌, ◌&&◌, not, filter, bytes_eq}
use Rattle.std.specs.Cmp.Lexicographic.{slice_cmp}
use Rattle.std.specs.List.{AllByRecursion}
use Rattle.std.specs.List.Sorted.{IsStrictlySortedBy}
use Rattle.std.specs.declared.cmp.Ordering.TheVariants.{Less}
use Rattle.pn_text.proofs.Bools.{left_false, right_false}
use Rattle.pn_lock.specs.Kept.{NoneOf, Rises, is_in}
use Rattle.pn_lock.proofs.KeptLemmas.{all_both, all_from, less_other}
use Rattle.pn_lock_make.proofs.OrderLemmas.{flips}
use Rattle.pn_asked.specs.Rows.{keys}
use Rattle.pn_manifest.specs.Said.{AreRising}
use Rattle.pn_plain.specs.WishLaws.{aliases}
use Rattle.pn_walk.specs.declared.wish.Wish.{Wish}
use Rattle.pn_locking.specs.Asks.{is_dev, is_optional, is_regular, row_of, rows_where}

below_where : (P : List ℕ → Type 0) (p : Wish → Bool) (ws : List Wish) → AllByRecursion P (aliases ws) → AllByRecursion P (keys (rows_where p ws))
below_where P p [] h = tt
below_where P p (w ∷ ws) h = elim (p w) as (λ b. AllByRecursion P (keys (map row_of (cond b (w ∷ filter p ws) (filter p ws))))) [
  | true ↦ (h.0, below_where P p ws h.1)
  | false ↦ below_where P p ws h.1
]

pub where_rises : (p : Wish → Bool) (ws : List Wish) → AreRising (aliases ws) → Rises (keys (rows_where p ws))
unfolding IsStrictlySortedBy
where_rises p [] h = tt
where_rises p (w ∷ ws) h = elim (p w) as (λ b. Rises (keys (map row_of (cond b (w ∷ filter p ws) (filter p ws))))) [
  | true ↦ (below_where (λ k. slice_cmp nat_cmp w.alias k ≡ Less) p ws h.0, where_rises p ws h.1)
  | false ↦ where_rises p ws h.1
]

-- a key that is below these is none of them
none_above : (x : List ℕ) (ks : List (List ℕ)) → AllByRecursion (λ k. slice_cmp nat_cmp x k ≡ Less) ks → is_in ks x ≡ false
none_above x [] h = refl
none_above x (k ∷ ks) h = ap (λ o. o || is_in ks x) (flips k x ∙ less_other x k h.0) ∙ none_above x ks h.1

add_below : (x : List ℕ) (those these : List (List ℕ)) → AllByRecursion (λ k. slice_cmp nat_cmp x k ≡ Less) these → NoneOf those these → NoneOf (x ∷ those) these
add_below x those these h n =
    all_from these (λ k both. ap (λ o. o || is_in those k) (less_other x k both.0) ∙ both.1) (all_both (λ k. slice_cmp nat_cmp x k ≡ Less) (λ k. is_in those k ≡ false) these h n)

-- what passes one test has no name of what passes another
pub apart : (p q : Wish → Bool) (ws : List Wish) → ((w : Wish) → q w ≡ true → p w ≡ false) → AreRising (aliases ws) → NoneOf (keys (rows_where p ws)) (keys (rows_where q ws))
unfolding IsStrictlySortedBy
apart p q [] other h = tt
apart p q (w ∷ ws) other h =
    let rest = apart p q ws other h.1 in
    let Below = λ (k : List ℕ). slice_cmp nat_cmp w.alias k ≡ Less in
    (elim (q w) as (λ b. q w ≡ b → NoneOf (keys (rows_where p (w ∷ ws))) (keys (map row_of (cond b (w ∷ filter q ws) (filter q ws))))) [
      | true ↦ λ e. subst (λ b. NoneOf (keys (map row_of (cond b (w ∷ filter p ws) (filter p ws)))) (w.alias ∷ keys (rows_where q ws))) (sym (other w e))
          (none_above w.alias (keys (rows_where p ws)) (below_where Below p ws h.0), rest)
      | false ↦ λ e. (elim (p w) as (λ b. NoneOf (keys (map row_of (cond b (w ∷ filter p ws) (filter p ws)))) (keys (rows_where q ws))) [
        | true ↦ add_below w.alias (keys (rows_where p ws)) (keys (rows_where q ws)) (below_where Below q ws h.0) rest
        | false ↦ rest
      ])
    ]) refl

in_neither : (a b : List (List ℕ)) (k : List ℕ) → is_in a k ≡ false → is_in b k ≡ false → is_in (a ++ b) k ≡ false
in_neither [] b k h n = n
in_neither (x ∷ a) b k h n = ap (λ o. o || is_in (a ++ b) k) (left_false (bytes_eq x k) (is_in a k) h) ∙ in_neither a b k (right_false (bytes_eq x k) (is_in a k) h) n

pub none_of_both : (a b these : List (List ℕ)) → NoneOf a these → NoneOf b these → NoneOf (a ++ b) these
none_of_both a b these h n = all_from these (λ k both. in_neither a b k both.0 both.1) (all_both (λ k. is_in a k ≡ false) (λ k. is_in b k ≡ false) these h n)

-- the tests of the three maps
pub dev_not_regular : (dev : List (List ℕ)) (w : Wish) → is_dev dev w ≡ true → is_regular dev w ≡ false
dev_not_regular dev w h = (elim w.optional as (λ o. (not o && is_in dev w.alias) ≡ true → (not o && not (is_in dev w.alias)) ≡ false) [
  | true ↦ λ e. refl
  | false ↦ λ e. ap not e
]) h

pub optional_not_regular : (dev : List (List ℕ)) (w : Wish) → is_optional w ≡ true → is_regular dev w ≡ false
optional_not_regular dev w h = ap (λ o. not o && not (is_in dev w.alias)) h

pub optional_not_dev : (dev : List (List ℕ)) (w : Wish) → is_optional w ≡ true → is_dev dev w ≡ false
optional_not_dev dev w h = ap (λ o. not o && is_in dev w.alias) h
