-- Marks of what walks lead to.
use Rattle.std.proofs.Common.{◌≡◌, ◌<◌, ◌+◌, ℕ, zero, suc, Bool, true, false, List, [], ◌∷◌, ◌++◌, length, get_or, inl, inr, refl, sym, subst, arith}
use Rattle.std.specs.Prelude.{◌⊎◌}
use Rattle.std.specs.List.{Contains}
use Rattle.std.proofs.lemmas.Bool.{cases_Bool}
use Rattle.std.proofs.lemmas.List.Elements.{Contains-append_cases, Contains-append_left, Contains-append_right}
use Rattle.pn_text.proofs.Members.{here, in_cons, none_in, there}
use Rattle.pn_lock.specs.declared.lists.LockSnapshot.{LockSnapshot}
use Rattle.pn_lock.specs.Locks.{Locked}
use Rattle.pn_lock_prod.specs.Targets.{IsDev, Leads, Stays, dev_targets, kept_targets, places_without}
use Rattle.pn_lock_prod.specs.Walks.{AreMarks, AreMet, IsMarked, Walks, first, next}

pub marks_met : (Leads : ℕ → ℕ → Type 0) (Starts : ℕ → Type 0) (seen : List Bool) (order : List ℕ) (n : ℕ) → length seen ≡ n → IsMarked seen order → AreMet Leads Starts order → AreMarks n (Walks Leads Starts) seen
marks_met Leads Starts seen order n count m met = record {
  count_is = count;
  right = λ k e. met.sound k (m.listed k e);
  all = λ k w. m.marked k (met.complete k w);
}

-- ---- places without a mark

record IsWithout (n : ℕ) (bs : List Bool) (j : ℕ) : Type 0 where
  at : ℕ
  is : j ≡ n + at
  low : at < length bs
  bare : get_or bs at false ≡ false

later : (n : ℕ) (b : Bool) (bs : List Bool) (j : ℕ) → IsWithout (suc n) bs j → IsWithout n (b ∷ bs) j
later n b bs j h =
    let is : j ≡ suc n + h.at = h.is in
    let low : h.at < length bs = h.low in
    record { at = suc h.at; is = omega (arith, is); low = omega (arith, low); bare = h.bare }

is_without : (n : ℕ) (bs : List Bool) (j : ℕ) → Contains (places_without n bs) j → IsWithout n bs j
is_without n [] j c = absurd (none_in j c)
is_without n (true ∷ bs) j c = later n true bs j (is_without (suc n) bs j c)
is_without n (false ∷ bs) j c = elim (in_cons n (places_without (suc n) bs) j c) [
  | inl e ↦ record { at = 0; is = omega (arith, e); low = omega arith; bare = refl }
  | inr m ↦ later n false bs j (is_without (suc n) bs j m)
]

has_without : (n : ℕ) (bs : List Bool) (at : ℕ) → at < length bs → get_or bs at false ≡ false → Contains (places_without n bs) (n + at)
has_without n [] at low e = absurd (omega (arith, low))
has_without n (true ∷ bs) zero low e = absurd (cc e)
has_without n (false ∷ bs) zero low e = let same : n ≡ n + 0 = omega arith in subst (Contains (n ∷ places_without (suc n) bs)) same (here n (places_without (suc n) bs))
has_without n (true ∷ bs) (suc at) low e = let same : suc n + at ≡ n + suc at = omega arith in subst (Contains (places_without (suc n) bs)) same (has_without (suc n) bs at (omega (arith, low)) e)
has_without n (false ∷ bs) (suc at) low e =
    let same : suc n + at ≡ n + suc at = omega arith in
    there n (places_without (suc n) bs) (n + suc at) (subst (Contains (places_without (suc n) bs)) same (has_without (suc n) bs at (omega (arith, low)) e))

-- ---- what stays

pub starts_within : (l : Locked) (dev : List Bool) (starts : List ℕ) → AreMarks (length l.snapshots) (IsDev l) dev → starts ≡ kept_targets l.importers ++ places_without 0 dev
    → ((k : ℕ) → Contains (kept_targets l.importers) k → k < length l.snapshots) → (k : ℕ) → Contains starts k → k < length l.snapshots
starts_within l dev starts m is kept k c = elim (Contains-append_cases (kept_targets l.importers) (places_without 0 dev) k (subst (λ (s : List ℕ). Contains s k) is c)) [
  | inl a ↦ kept k a
  | inr b ↦
      let w = is_without 0 dev k b in
      let at : k ≡ 0 + w.at = w.is in
      let low : w.at < length dev = w.low in
      let count : length dev ≡ length l.snapshots = m.count_is in
      omega (arith, at, low, count)
]

walks_same : (L : ℕ → ℕ → Type 0) (P Q : ℕ → Type 0) → ((k : ℕ) → P k → Q k) → (k : ℕ) → Walks L P k → Walks L Q k
walks_same L P Q f _ (first k s) = first k (f k s)
walks_same L P Q f _ (next j k w l) = next j k (walks_same L P Q f j w) l

pub stay_marked : (l : Locked) (dev marks : List Bool) (starts : List ℕ) → AreMarks (length l.snapshots) (IsDev l) dev → starts ≡ kept_targets l.importers ++ places_without 0 dev
    → AreMarks (length l.snapshots) (Walks (Leads l.snapshots) (Contains starts)) marks → AreMarks (length l.snapshots) (Stays l) marks
stay_marked l dev marks starts m is r = record {
  count_is = r.count_is;
  right = λ k e. walks_same (Leads l.snapshots) (Contains starts) Start to k (r.right k e);
  all = λ k w. r.all k (walks_same (Leads l.snapshots) Start (Contains starts) back k w);
} where
  Start : ℕ → Type 0
  Start j = Contains (kept_targets l.importers) j ⊎ ((j < length l.snapshots) × (IsDev l j → ⊥))

  to : (j : ℕ) → Contains starts j → Start j
  to j c = elim (Contains-append_cases (kept_targets l.importers) (places_without 0 dev) j (subst (λ (s : List ℕ). Contains s j) is c)) [
    | inl a ↦ inl a
    | inr b ↦
        let w = is_without 0 dev j b in
        let at : j ≡ 0 + w.at = w.is in
        let low : w.at < length dev = w.low in
        let count : length dev ≡ length l.snapshots = m.count_is in
        let same : w.at ≡ j = omega (arith, at) in
        let bare : get_or dev j false ≡ false = subst (λ (i : ℕ). get_or dev i false ≡ false) same w.bare in
        inr (omega (arith, at, low, count), λ d. let marked = m.all j d in cc (marked, bare))
  ]

  back : (j : ℕ) → Start j → Contains starts j
  back j (inl a) = subst (λ (s : List ℕ). Contains s j) (sym is) (Contains-append_left (kept_targets l.importers) (places_without 0 dev) j a)
  back j (inr b) = subst (λ (s : List ℕ). Contains s j) (sym is) (Contains-append_right (kept_targets l.importers) (places_without 0 dev) j (elim (cases_Bool (get_or dev j false)) [
    | inl e ↦ absurd (b.1 (m.right j e))
    | inr e ↦
        let count : length dev ≡ length l.snapshots = m.count_is in
        let low : j < length l.snapshots = b.0 in
        let same : 0 + j ≡ j = omega arith in
        subst (Contains (places_without 0 dev)) same (has_without 0 dev j (omega (arith, count, low)) e)
  ]))

-- ---- walks over the snapshots of a lock

pub dev_marked : (l : Locked) (ss : List LockSnapshot) (starts : List ℕ) (dev : List Bool) → ss ≡ l.snapshots → starts ≡ dev_targets l.importers → AreMarks (length ss) (Walks (Leads ss) (Contains starts)) dev
    → AreMarks (length l.snapshots) (IsDev l) dev
dev_marked l ss starts dev same is m =
    subst (λ (x : List ℕ). AreMarks (length l.snapshots) (Walks (Leads l.snapshots) (Contains x)) dev) is (subst (λ (s : List LockSnapshot). AreMarks (length s) (Walks (Leads s) (Contains starts)) dev) same m)

pub walks_marked : (l : Locked) (ss : List LockSnapshot) (starts : List ℕ) (marks : List Bool) → ss ≡ l.snapshots → AreMarks (length ss) (Walks (Leads ss) (Contains starts)) marks
    → AreMarks (length l.snapshots) (Walks (Leads l.snapshots) (Contains starts)) marks
walks_marked l ss starts marks same m = subst (λ (s : List LockSnapshot). AreMarks (length s) (Walks (Leads s) (Contains starts)) marks) same m
