-- A fault lies in its text.
use Rattle.std.proofs.Common.{◌≡◌, ◌≤◌, ℕ, suc, true, false, List, [], ◌∷◌, length, Some, None, subst, arith}
use Rattle.std.specs.Prelude.{if◌then◌else◌}
use Rattle.pn_ranges.specs.declared.fault.Stop.{Stop}
use Rattle.pn_ranges.specs.declared.fault.Stop.TheVariants as stop
use Rattle.pn_ranges.specs.Places.{State, step, may_end, is_large, on_step, first_fault}
use Rattle.pn_ranges.specs.Refusals.{IsLeftOf}

some-left : (n m : ℕ) (s : Stop) → n ≤ m → Some (stop.Byte n) ≡ Some s → IsLeftOf m s
some-left n m (stop.Byte k) l h = let e : n ≡ k = cc in subst (λ z. z ≤ m) e l
some-left n m (stop.Number k) l h = cc h
some-left n m stop.Memory l h = tt

some-number : (n m : ℕ) (s : Stop) → n ≤ m → Some (stop.Number n) ≡ Some s → IsLeftOf m s
some-number n m (stop.Byte k) l h = cc h
some-number n m (stop.Number k) l h = let e : n ≡ k = cc in subst (λ z. z ≤ m) e l
some-number n m stop.Memory l h = tt

left-more : (n : ℕ) (s : Stop) → IsLeftOf n s → IsLeftOf (suc n) s
left-more n (stop.Byte k) h = omega arith
left-more n (stop.Number k) h = omega arith
left-more n stop.Memory h = tt

pub fault-left : (text : List ℕ) (q : State) (s : Stop) → first_fault q text ≡ Some s → IsLeftOf (length text) s
fault-left [] q s h = elim (may_end q) as (λ v. (if v then None else Some (stop.Byte 0)) ≡ Some s → IsLeftOf 0 s) [
  | true ↦ λ e. cc e
  | false ↦ λ e. some-left 0 0 s (omega arith) e
] h
fault-left (b ∷ rest) q s h = elim (step q b) as (λ o. on_step o (λ n. if is_large q n (b ∷ rest) then Some (stop.Number (length (b ∷ rest))) else first_fault n rest) (Some (stop.Byte (length (b ∷ rest)))) ≡ Some s
    → IsLeftOf (length (b ∷ rest)) s) [
      | None ↦ λ e. some-left (length (b ∷ rest)) (length (b ∷ rest)) s (omega arith) e
      | Some n ↦ λ e. elim (is_large q n (b ∷ rest)) as (λ v. (if v then Some (stop.Number (length (b ∷ rest))) else first_fault n rest) ≡ Some s → IsLeftOf (length (b ∷ rest)) s) [
        | true ↦ λ e. some-number (length (b ∷ rest)) (length (b ∷ rest)) s (omega arith) e
        | false ↦ λ e. left-more (length rest) s (fault-left rest n s e)
      ] e
    ] h
