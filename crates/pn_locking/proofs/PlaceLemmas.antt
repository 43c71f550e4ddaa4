-- What stands at the place of a key.
use Rattle.std.proofs.Common.{◌≡◌, ◌<◌, ℕ, zero, suc, true, false, cond, List, [], ◌∷◌, length, get_or, option_map, refl, ap, ◌∙◌, arith}
use Rattle.std.specs.Prelude.{◌||◌, Option, Some, None, bytes_eq, is_some}
use Rattle.pn_asked.specs.Rows.{is_in}
use Rattle.pn_lock.specs.declared.lists.LockPackage.{LockPackage}
use Rattle.pn_lock.specs.Locks.{ids_of, place_of}
use Rattle.pn_locking.specs.Wants.{locked_in}

some_next : (o : Option ℕ) → is_some o ≡ is_some (option_map suc o)
some_next None = refl
some_next (Some n) = refl

-- a key is among keys where it has a place
pub in_place : (x : List ℕ) (ks : List (List ℕ)) → is_in ks x ≡ is_some (place_of x ks)
in_place x [] = refl
in_place x (k ∷ ks) = elim (bytes_eq k x) as (λ o. (o || is_in ks x) ≡ is_some (cond o (Some 0) (option_map suc (place_of x ks)))) [
  | true ↦ refl
  | false ↦ in_place x ks ∙ some_next (place_of x ks)
]

not_next : (o : Option ℕ) → Some 0 ≡ option_map suc o → ⊥
not_next None e = cc
not_next (Some m) e = let same : 0 ≡ suc m = cc in absurd (omega arith)

back : (n : ℕ) (o : Option ℕ) → Some (suc n) ≡ option_map suc o → Some n ≡ o
back n None e = absurd (cc)
back n (Some m) e = let same : suc n ≡ suc m = cc in let here : n ≡ m = omega arith in ap Some here

none_back : (o : Option ℕ) → None ≡ option_map suc o → None ≡ o
none_back None e = refl
none_back (Some m) e = absurd (cc)

-- the integrity of the package at an id's place
pub locked_found : (x : List ℕ) (ps : List LockPackage) (at : ℕ) (p : LockPackage) → Some at ≡ place_of x (ids_of ps) → at < length ps → p ≡ get_or ps at p → Some p.integrity ≡ locked_in x ps
locked_found x [] at p e low is = absurd (omega (arith, low))
locked_found x (q ∷ ps) zero p e low is =
    (elim (bytes_eq q.id x) as (λ o. Some 0 ≡ cond o (Some 0) (option_map suc (place_of x (ids_of ps))) → Some p.integrity ≡ cond o (Some q.integrity) (locked_in x ps)) [
      | true ↦ λ f. ap (λ (z : LockPackage). Some z.integrity) is
      | false ↦ λ f. absurd (not_next (place_of x (ids_of ps)) f)
    ]) e
locked_found x (q ∷ ps) (suc n) p e low is =
    (elim (bytes_eq q.id x) as (λ o. Some (suc n) ≡ cond o (Some 0) (option_map suc (place_of x (ids_of ps))) → Some p.integrity ≡ cond o (Some q.integrity) (locked_in x ps)) [
      | true ↦ λ f. let same : suc n ≡ 0 = cc in absurd (omega arith)
      | false ↦ λ f. locked_found x ps n p (back n (place_of x (ids_of ps)) f) (omega (arith, low)) is
    ]) e

pub locked_lost : (x : List ℕ) (ps : List LockPackage) → None ≡ place_of x (ids_of ps) → None ≡ locked_in x ps
locked_lost x [] e = refl
locked_lost x (q ∷ ps) e =
    (elim (bytes_eq q.id x) as (λ o. None ≡ cond o (Some 0) (option_map suc (place_of x (ids_of ps))) → None ≡ cond o (Some q.integrity) (locked_in x ps)) [
      | true ↦ λ f. absurd (cc)
      | false ↦ λ f. locked_lost x ps (none_back (place_of x (ids_of ps)) f)
    ]) e
