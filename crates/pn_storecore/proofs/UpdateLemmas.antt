-- Lemmas on maps with another value at one key.
use Rattle.std.proofs.Common.{◌≡◌, ◌≢◌, ℕ, List, true, false, nat_eq, refl, sym, ◌∙◌, ◌⊎◌, inl, inr, Some, None}
use Rattle.std.specs.Prelude.{Option, cond}
use Rattle.std.specs.Map.{update}
use Rattle.std.specs.Str.{bytes_eq}
use Rattle.std.specs.Cmp.{unsigned_Decides}
use Rattle.std.proofs.lemmas.Slice.Eq.{bytes_eq-Decides}

-- what is at a number: the new value at the same one, else what was there
pub at_number : {A : Type 0} (f : ℕ → Option A) (k : ℕ) (v : Option A) (q : ℕ) → ((k ≡ q) × (update nat_eq f k v q ≡ v)) ⊎ ((k ≢ q) × (update nat_eq f k v q ≡ f q))
at_number f k v q = elim (nat_eq k q) as (λ b. (b ≡ true → k ≡ q) → (k ≡ q → b ≡ true) → ((k ≡ q) × (cond b v (f q) ≡ v)) ⊎ ((k ≢ q) × (cond b v (f q) ≡ f q))) [
  | true ↦ λ one back. inl (one refl, refl)
  | false ↦ λ one back. inr (λ e. let clash : false ≡ true = back e in cc, refl)
] (unsigned_Decides k q).0 (unsigned_Decides k q).1

pub at_address : {A : Type 0} (f : List ℕ → Option A) (at : List ℕ) (v : Option A) (q : List ℕ) → ((at ≡ q) × (update bytes_eq f at v q ≡ v)) ⊎ ((at ≢ q) × (update bytes_eq f at v q ≡ f q))
at_address f at v q = elim (bytes_eq at q) as (λ b. (b ≡ true → at ≡ q) → (at ≡ q → b ≡ true) → ((at ≡ q) × (cond b v (f q) ≡ v)) ⊎ ((at ≢ q) × (cond b v (f q) ≡ f q))) [
  | true ↦ λ one back. inl (one refl, refl)
  | false ↦ λ one back. inr (λ e. let clash : false ≡ true = back e in cc, refl)
] (bytes_eq-Decides at q).0 (bytes_eq-Decides at q).1

pub none_some : {A : Type 0} (o : Option A) (x : A) → o ≡ Some x → o ≢ None
none_some o x some none = let clash : Some x ≡ None = sym some ∙ none in cc
