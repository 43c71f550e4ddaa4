-- What the lists of a lock keep.
use Rattle.std.proofs.Common.{◌≡◌, ◌<◌, ℕ, zero, suc, true, false, List, [], ◌∷◌, ◌++◌, length, get_or, map, refl, sym, ap, ◌∙◌, subst, arith, inl, inr}
use Rattle.std.specs.Prelude.{bytes_eq, ◌||◌}
use Rattle.std.specs.List.{AllByRecursion, Contains, IsDistinct, list_all}
use Rattle.std.specs.List.Sorted.{IsStrictlySortedBy}
use Rattle.std.specs.Cmp.Derive.{both_true}
use Rattle.std.specs.Cmp.Lexicographic.{slice_cmp}
use Rattle.std.specs.Ordering.{nat_cmp}
use Rattle.std.specs.declared.cmp.Ordering.TheVariants.{Less}
use Rattle.std.proofs.lemmas.Slice.Eq.{bytes_eq-Decides}
use Rattle.std.proofs.lemmas.List.Elements.{All-contains, All-from_recursion, Contains-append_cases, Contains-get_or}
use Rattle.std.proofs.lemmas.Map.Keys.{IsDistinct-from_apart}
use Rattle.pn_text.proofs.Members.{in_cons, none_in, to_map}
use Rattle.pn_deppath.specs.Folders.{is_ascii}
use Rattle.pn_deppath.proofs.PathLemmas.{law}
use Rattle.pn_lock.specs.declared.lists.LockSnapshot.{LockSnapshot}
use Rattle.pn_lock.specs.Kept.{IsLock, IsSnapshot, NoneOf, Rises, is_in}
use Rattle.pn_lock.specs.Locks.{Locked, paths_of}
use Rattle.pn_lock.proofs.KeptLemmas.{less_other}

pub in_all : {A : Type 0} (P : A → Type 0) (xs : List A) (x : A) → AllByRecursion P xs → Contains xs x → P x
in_all P xs x h c = All-contains P xs x (All-from_recursion P xs h) c

pub all_ascii : (l : Locked) (ss : List LockSnapshot) → AllByRecursion (IsSnapshot l) ss → list_all (list_all is_ascii) (paths_of ss) ≡ true
all_ascii l [] h = refl
all_ascii l (s ∷ ss) h = both_true (law.ascii s.path h.0.path) (all_ascii l ss h.1)

rising_at : (ks : List (List ℕ)) (i j : ℕ) (d : List ℕ) → Rises ks → i < j → j < length ks → bytes_eq (get_or ks i d) (get_or ks j d) ≡ false
unfolding IsStrictlySortedBy
rising_at [] i j d h less within = absurd (omega (arith, within))
rising_at (k ∷ ks) i zero d h less within = absurd (omega (arith, less))
rising_at (k ∷ ks) zero (suc j) d h less within = less_other k (get_or ks j d) ((All-from_recursion (λ y. slice_cmp nat_cmp k y ≡ Less) ks h.0) j d (omega (arith, within)))
rising_at (k ∷ ks) (suc i) (suc j) d h less within = rising_at ks i j d h.1 (omega (arith, less)) (omega (arith, within))

pub rising_distinct : (ks : List (List ℕ)) → Rises ks → IsDistinct bytes_eq ks
rising_distinct ks h = IsDistinct-from_apart bytes_eq ks (λ i j d less within. rising_at ks i j d h less within)

in_keys : (keys : List (List ℕ)) (k : List ℕ) → Contains keys k → is_in keys k ≡ true
in_keys [] k c = absurd (none_in k c)
in_keys (x ∷ keys) k c = elim (in_cons x keys k c) [
  | inl e ↦ ap (λ o. o || is_in keys k) ((bytes_eq-Decides x k).1 e)
  | inr more ↦ elim (bytes_eq x k) as (λ o. (o || is_in keys k) ≡ true) [ true ↦ refl | false ↦ in_keys keys k more ]
]

-- no key of these is one of those
pub apart_keys : {A B : Type 0} (f : A → List ℕ) (g : B → List ℕ) (those : List A) (these : List B) → NoneOf (map f those) (map g these) → (a : A) (b : B) → Contains those a → Contains these b → f a ≡ g b → ⊥
apart_keys f g those these h a b ca cb e =
    let no : is_in (map f those) (g b) ≡ false = in_all (λ k. is_in (map f those) k ≡ false) (map g these) (g b) h (to_map g these b cb) in
    let yes : is_in (map f those) (g b) ≡ true = in_keys (map f those) (g b) (subst (Contains (map f those)) e (to_map f those a ca)) in
    let clash : false ≡ true = sym no ∙ yes in cc

-- Two lists with keys of their own have each key once.
pub once_both : {A : Type 0} (key : A → List ℕ) (xs ys : List A) → ((d e : A) → Contains xs d → Contains xs e → key d ≡ key e → d ≡ e) → ((d e : A) → Contains ys d → Contains ys e → key d ≡ key e → d ≡ e)
    → ((d e : A) → Contains xs d → Contains ys e → key d ≡ key e → ⊥) → (d e : A) → Contains (xs ++ ys) d → Contains (xs ++ ys) e → key d ≡ key e → d ≡ e
once_both key xs ys one two apart d e cd ce same = elim (Contains-append_cases xs ys d cd) [
  | inl a ↦ elim (Contains-append_cases xs ys e ce) [ inl b ↦ one d e a b same | inr b ↦ absurd (apart d e a b same) ]
  | inr a ↦ elim (Contains-append_cases xs ys e ce) [ inl b ↦ absurd (apart e d b a (sym same)) | inr b ↦ two d e a b same ]
]

pub item_in : {A : Type 0} (xs : List A) (n : ℕ) (x : A) → n < length xs → x ≡ get_or xs n x → Contains xs x
item_in xs n x within is = subst (Contains xs) (sym is) (Contains-get_or xs n x within)

pub snapshot_at : (l : Locked) (ss : List LockSnapshot) (n : ℕ) (s : LockSnapshot) → IsLock l → ss ≡ l.snapshots → n < length ss → s ≡ get_or ss n s → IsSnapshot l s
snapshot_at l ss n s kept same within is = in_all (IsSnapshot l) l.snapshots s kept.snapshots (subst (λ (xs : List LockSnapshot). Contains xs s) same (item_in ss n s within is))
