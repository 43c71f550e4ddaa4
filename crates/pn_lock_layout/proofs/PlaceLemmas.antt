-- The place of a key among those that are left.
use Rattle.std.proofs.Common.{◌≡◌, ◌<◌, ◌+◌, ℕ, suc, true, false, cond, List, [], ◌∷◌, length, drop, get_or, refl, sym, ap, ◌∙◌, arith, Some, None, option_map}
use Rattle.std.specs.Prelude.{Option, bytes_eq, ◌||◌}
use Rattle.std.proofs.lemmas.List.{drop_more}
use Rattle.std.proofs.Math.Seq.{drop-length}
use Rattle.pn_lock.specs.declared.lists.LockPackage.{LockPackage}
use Rattle.pn_lock.specs.Kept.{is_in}
use Rattle.pn_lock.specs.Locks.{ids_of, place_of}

-- a place behind that many
abbrev pub after : ℕ → Option ℕ → Option ℕ
after n None = None
after n (Some k) = Some (n + k)

pub after_none : (o : Option ℕ) → o ≡ after 0 o
after_none None = refl
after_none (Some k) = ap (λ j. Some j) (omega arith)

after_more : (n : ℕ) (o : Option ℕ) → after n (option_map suc o) ≡ after (n + 1) o
after_more n None = refl
after_more n (Some k) = ap (λ j. Some j) (omega arith)

left : (ps : List LockPackage) (n : ℕ) (p : LockPackage) → n < length ps → p ≡ get_or ps n p → ids_of (drop n ps) ≡ p.id ∷ ids_of (drop (n + 1) ps)
left ps n p within is = ap ids_of (drop_more ps n p within) ∙ ap (λ (q : LockPackage). q.id ∷ ids_of (drop (n + 1) ps)) (sym is)

pub found : (id : List ℕ) (ps : List LockPackage) (n : ℕ) (p : LockPackage) (o : Option ℕ) → n < length ps → p ≡ get_or ps n p → bytes_eq p.id id ≡ true → o ≡ after n (place_of id (ids_of (drop n ps))) → Some n ≡ o
found id ps n p o within is same h =
    sym (h ∙ ap (λ ks. after n (place_of id ks)) (left ps n p within is) ∙ ap (λ b. after n (cond b (Some 0) (option_map suc (place_of id (ids_of (drop (n + 1) ps)))))) same ∙ ap (λ j. Some j) (omega arith))

pub passed : (id : List ℕ) (ps : List LockPackage) (n : ℕ) (p : LockPackage) (o : Option ℕ) → n < length ps → p ≡ get_or ps n p → bytes_eq p.id id ≡ false → o ≡ after n (place_of id (ids_of (drop n ps)))
    → o ≡ after (n + 1) (place_of id (ids_of (drop (n + 1) ps)))
passed id ps n p o within is other h =
    h ∙ ap (λ ks. after n (place_of id ks)) (left ps n p within is) ∙ ap (λ b. after n (cond b (Some 0) (option_map suc (place_of id (ids_of (drop (n + 1) ps)))))) other
    ∙ after_more n (place_of id (ids_of (drop (n + 1) ps)))

pub none : (id : List ℕ) (ps : List LockPackage) (n : ℕ) (o : Option ℕ) → n ≡ length ps → o ≡ after n (place_of id (ids_of (drop n ps))) → None ≡ o
none id ps n o e h = sym (h ∙ ap (λ m. after n (place_of id (ids_of (drop m ps)))) e ∙ ap (λ l. after n (place_of id (ids_of l))) (drop-length ps))

-- a place is within, and a key that is among them has one
pub place_within : (k : List ℕ) (ks : List (List ℕ)) (n : ℕ) → place_of k ks ≡ Some n → n < length ks
place_within k [] n h = cc
place_within k (x ∷ ks) n h = elim (bytes_eq x k) as (λ b. cond b (Some 0) (option_map suc (place_of k ks)) ≡ Some n → n < length (x ∷ ks)) [
  | true ↦ λ e. let z : 0 ≡ n = cc in omega (arith, z)
  | false ↦ λ e. elim (place_of k ks) as (λ o. place_of k ks ≡ o → option_map suc o ≡ Some n → n < length (x ∷ ks)) [
    | None ↦ λ q e. cc
    | Some m ↦ λ q e. let z : suc m ≡ n = cc in omega (arith, z, place_within k ks m q)
  ] refl e
] h

pub none_absent : (k : List ℕ) (ks : List (List ℕ)) → place_of k ks ≡ None → is_in ks k ≡ false
none_absent k [] h = refl
none_absent k (x ∷ ks) h = elim (bytes_eq x k) as (λ b. cond b (Some 0) (option_map suc (place_of k ks)) ≡ None → (b || is_in ks k) ≡ false) [
  | true ↦ λ e. cc
  | false ↦ λ e. elim (place_of k ks) as (λ o. place_of k ks ≡ o → option_map suc o ≡ None → is_in ks k ≡ false) [
    | None ↦ λ q e. none_absent k ks q
    | Some m ↦ λ q e. cc
  ] refl e
] h
