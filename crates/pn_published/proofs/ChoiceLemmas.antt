-- The last version that passes a test is the greatest that does, and the choice among versions.
use Rattle.std.proofs.Common.{◌≡◌, ◌<◌, ◌⊎◌, ℕ, zero, suc, List, [], ◌∷◌, ◌||◌, ◌&&◌, Bool, true, false, Option, Some, None, map, option_map, get_or, refl, sym, ap, ◌∙◌, subst, arith, inl, inr, if◌then◌else◌, slice_get}
use Rattle.std.specs.List.{list_any}
use Rattle.std.specs.declared.cmp.Ordering.TheVariants.{Less}
use Rattle.std.proofs.lemmas.Map.Keys.{Less-from_sorted}
use Rattle.std.proofs.lemmas.Option.{slice_get_within, get_or_from_slice_get}
use Rattle.semver.specs.Parse.{Parts}
use Rattle.pn_text.proofs.Bools.{true_false}
use Rattle.pn_text.proofs.Results.{same_some}
use Rattle.pn_published.specs.Versions.{IsRising, version_cmp}
use Rattle.pn_published.specs.Places.{or_else, last_place}
use Rattle.pn_published.specs.Choice.{fits, is_held, passes, if_passes, NonePasses, IsGreatest, IsLatest, LatestFails, IsChoice, greatest_held, the_latest, the_greatest, none, ChoiceLaw}

pub any_map : {X Y : Type 0} (f : X → Y) (p : Y → Bool) (xs : List X) → list_any p (map f xs) ≡ list_any (λ x. p (f x)) xs
any_map f p [] = refl
any_map f p (x ∷ xs) = ap (λ b. p (f x) || b) (any_map f p xs)

-- The place is the last that passes.
record IsLast (test : Parts → Bool) (versions : List Parts) (k : ℕ) : Type 0 where
  version : Parts
  there : slice_get versions k ≡ Some version
  passes : test version ≡ true
  last : (j : ℕ) (u : Parts) → k < j → slice_get versions j ≡ Some u → test u ≡ false

-- the last place is one, or there is none
data Lasts (test : Parts → Bool) (versions : List Parts) (o : Option ℕ) : Type 0 where
  at : (k : ℕ) → o ≡ Some k → IsLast test versions k → Lasts test versions o
  nowhere : o ≡ None → NonePasses test versions → Lasts test versions o

lasts : (test : Parts → Bool) (versions : List Parts) → Lasts test versions (last_place test versions)
lasts test [] = nowhere refl (λ j u h. none_is_some h) where
  none_is_some : {u : Parts} {b : Bool} → None ≡ Some u → b ≡ false
  none_is_some e = absurd (never e) where
    never : {u : Parts} → None ≡ Some u → ⊥
    never e = cc e
lasts test (v ∷ vs) = elim (lasts test vs) [
  | at k is l ↦ at (suc k) (ap (λ o. or_else (option_map suc o) (if test v then Some 0 else None)) is) (record { version = l.version; there = l.there; passes = l.passes; last = λ j u. further k l.last j u })
  | nowhere is n ↦ elim (test v) as (λ b. test v ≡ b → Lasts test (v ∷ vs) (last_place test (v ∷ vs))) [
    | true ↦ λ yes. at 0 (ap (λ o. or_else (option_map suc o) (if test v then Some 0 else None)) is ∙ ap (λ b. if b then Some 0 else None) yes) (record { version = v; there = refl; passes = yes; last = λ j u. above n j u })
    | false ↦ λ fails'. nowhere (ap (λ o. or_else (option_map suc o) (if test v then Some 0 else None)) is ∙ ap (λ b. if b then Some 0 else None) fails') (λ j u. all fails' n j u)
  ] refl
]
  where
    further : (k : ℕ) → ((j : ℕ) (u : Parts) → k < j → slice_get vs j ≡ Some u → test u ≡ false) → (j : ℕ) (u : Parts) → suc k < j → slice_get (v ∷ vs) j ≡ Some u → test u ≡ false
    further k f zero u h is = absurd (omega arith)
    further k f (suc j) u h is = f j u (omega arith) is

    above : NonePasses test vs → (j : ℕ) (u : Parts) → 0 < j → slice_get (v ∷ vs) j ≡ Some u → test u ≡ false
    above n zero u h is = absurd (omega arith)
    above n (suc j) u h is = n j u is

    all : test v ≡ false → NonePasses test vs → (j : ℕ) (u : Parts) → slice_get (v ∷ vs) j ≡ Some u → test u ≡ false
    all f n zero u is = ap test (sym (same_some _ _ is)) ∙ f
    all f n (suc j) u is = n j u is

-- where versions rise, the last is the greatest
greatest : (test : Parts → Bool) (versions : List Parts) (k : ℕ) → IsRising versions → IsLast test versions k → IsGreatest test versions k
greatest test versions k rising l = record {
  version = l.version;
  there = l.there;
  passes = l.passes;
  greatest = λ j u is yes other. elim (before j) [
    | inl later ↦ absurd (true_false (test u) yes (l.last j u later is))
    | inr (inl same) ↦ absurd (other same)
    | inr (inr earlier) ↦ below j u is earlier
  ];
}
  where
    before : (j : ℕ) → (k < j) ⊎ ((j ≡ k) ⊎ (j < k))
    before j = grind arith

    below : (j : ℕ) (u : Parts) → slice_get versions j ≡ Some u → j < k → version_cmp u l.version ≡ Less
    below j u is h =
        let a : get_or versions j u ≡ u = get_or_from_slice_get versions j u u is in
        let b : get_or versions k u ≡ l.version = get_or_from_slice_get versions k l.version u l.there in
        ap (λ x. version_cmp x l.version) (sym a) ∙ ap (version_cmp (get_or versions j u)) (sym b) ∙ Less-from_sorted version_cmp versions j k u rising h (slice_get_within versions k l.version l.there)

-- what the latest is
data Latests (test : Parts → Bool) (versions : List Parts) (latest o : Option ℕ) : Type 0 where
  fits_it : (k : ℕ) → o ≡ Some k → IsLatest test versions latest k → Latests test versions latest o
  fails : o ≡ None → LatestFails test versions latest → Latests test versions latest o

latests : (test : Parts → Bool) (versions : List Parts) (latest : Option ℕ) → Latests test versions latest (if_passes test versions latest)
latests test versions None = fails refl (λ k v e. absurd (never e)) where
  never : {k : ℕ} → None ≡ Some k → ⊥
  never e = cc e
latests test versions (Some k) = elim (slice_get versions k) as (λ o. slice_get versions k ≡ o → Latests test versions (Some k) (if passes test o then Some k else None)) [
  | None ↦ λ is. fails refl (λ j v e at. absurd (none_some (sym is ∙ ap (slice_get versions) (same_some _ _ e) ∙ at)))
  | Some v ↦ λ is. elim (test v) as (λ b. test v ≡ b → Latests test versions (Some k) (if b then Some k else None)) [
    | true ↦ λ yes. fits_it k refl (record { version = v; there = is; passes = yes; is = refl })
    | false ↦ λ f. fails refl (λ j u e at. ap test (same_some _ _ (sym at ∙ ap (slice_get versions) (sym (same_some _ _ e)) ∙ is)) ∙ f)
  ] refl
] refl
  where
    none_some : {v : Parts} → None ≡ Some v → ⊥
    none_some e = cc e

pub choice : ChoiceLaw
choice versions latest held ranges rising = elim (lasts both versions) [
  | at k is l ↦ subst Right (sym (ap (λ o. or_else o rest) is)) (greatest_held k (greatest both versions k rising l))
  | nowhere is n ↦ subst Right (sym (ap (λ o. or_else o rest) is)) (elim (latests test versions latest) [
    | fits_it k e l ↦ subst Right (sym (ap (λ o. or_else o (last_place test versions)) e)) (the_latest k n l)
    | fails e f ↦ subst Right (sym (ap (λ o. or_else o (last_place test versions)) e)) (elim (lasts test versions) [
      | at k is2 l ↦ subst Right (sym is2) (the_greatest k n f (greatest test versions k rising l))
      | nowhere is2 none2 ↦ subst Right (sym is2) (none none2)
    ])
  ])
]
  where
    test : Parts → Bool
    test = fits ranges

    both : Parts → Bool
    both v = fits ranges v && is_held held v

    rest : Option ℕ
    rest = or_else (if_passes (fits ranges) versions latest) (last_place (fits ranges) versions)

    Right : Option ℕ → Type 0
    Right o = IsChoice (fits ranges) (is_held held) versions latest o
