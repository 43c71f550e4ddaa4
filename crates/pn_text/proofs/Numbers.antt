-- Lemmas on numbers that are compared.
use Rattle.std.proofs.Common.{◌≡◌, ◌≢◌, ◌<◌, ◌⊎◌, ℕ, nat_eq, Bool, true, false, refl, arith, inl, inr}
use Rattle.std.specs.Prelude.{nat_lt}
use Rattle.std.specs.Cmp.{unsigned_Decides}
use Rattle.std.proofs.lemmas.Bool.Decides.{nat_tests}

pub below : (k i : ℕ) → nat_lt k i ≡ true → k < i
below k i e = grind (arith, nat_tests, e)

pub same_or_not : (i j : ℕ) → (i ≡ j) ⊎ (i ≢ j)
same_or_not i j = elim (nat_eq i j) as (λ b. (b ≡ true → i ≡ j) → (i ≡ j → b ≡ true) → (i ≡ j) ⊎ (i ≢ j)) [
  | true ↦ λ one back. inl (one refl)
  | false ↦ λ one back. inr (λ e. let clash : false ≡ true = back e in cc)
] (unsigned_Decides i j).0 (unsigned_Decides i j).1
