-- The places with a mark.
use Rattle.std.proofs.Common.{◌≡◌, ◌<◌, ℕ, zero, suc, ◌+◌, Bool, true, false, List, [], ◌∷◌, get_or, inl, inr, refl, sym, ap, ◌∙◌, subst, arith}
use Rattle.std.specs.List.{All, AllPairs, Contains}
use Rattle.std.proofs.lemmas.List.Elements.{All-contains_itself, All-weaker}
use Rattle.std.proofs.lemmas.List.Kept.{AllPairs-cons}
use Rattle.pn_text.specs.declared.index.PkgIx.{PkgIx}
use Rattle.pn_text.proofs.Members.{none_in, in_cons, here, there}
use Rattle.pn_graph.specs.Graphs.{Package}
use Rattle.pn_graph.specs.Reaches.{Reaches, IsReach}
use Rattle.pn_graph.specs.Founds.{IsMarked, AreReached, places_from}

abbrev pub place : ℕ → PkgIx
place n = record { 0 = n }

-- the place has a mark, counted from a number on
record IsPlace (n : ℕ) (bs : List Bool) (p : PkgIx) : Type 0 where
  at : ℕ
  is : p ≡ place (n + at)
  mark : get_or bs at false ≡ true

next : (n at : ℕ) → place (suc n + at) ≡ place (n + suc at)
next n at = ap place (omega arith)

later : (n : ℕ) (b : Bool) (bs : List Bool) (p : PkgIx) → IsPlace (suc n) bs p → IsPlace n (b ∷ bs) p
later n b bs p h = record { at = suc h.at; is = h.is ∙ next n h.at; mark = h.mark }

is_place : (n : ℕ) (bs : List Bool) (p : PkgIx) → Contains (places_from n bs) p → IsPlace n bs p
is_place n [] p c = absurd (none_in p c)
is_place n (true ∷ bs) p c = elim (in_cons (place n) (places_from (suc n) bs) p c) [
  | inl e ↦ record { at = 0; is = sym e ∙ ap place (omega arith); mark = refl }
  | inr m ↦ later n true bs p (is_place (suc n) bs p m)
]
is_place n (false ∷ bs) p c = later n false bs p (is_place (suc n) bs p c)

no_place : (at : ℕ) → get_or [] at false ≡ true → ⊥
no_place at e = (cc)

has_place : (n : ℕ) (bs : List Bool) (at : ℕ) → get_or bs at false ≡ true → Contains (places_from n bs) (place (n + at))
has_place n [] at e = absurd (no_place at e)
has_place n (true ∷ bs) zero e = subst (λ (p : PkgIx). Contains (place n ∷ places_from (suc n) bs) p) (ap place (omega arith)) (here (place n) (places_from (suc n) bs))
has_place n (false ∷ bs) zero e = (cc)
has_place n (true ∷ bs) (suc at) e = there (place n) (places_from (suc n) bs) (place (n + suc at)) (subst (λ (p : PkgIx). Contains (places_from (suc n) bs) p) (next n at) (has_place (suc n) bs at e))
has_place n (false ∷ bs) (suc at) e = subst (λ (p : PkgIx). Contains (places_from (suc n) bs) p) (next n at) (has_place (suc n) bs at e)

higher : (n : ℕ) (bs : List Bool) (p : PkgIx) → IsPlace (suc n) bs p → n < p.0
higher n bs p h = let e : p.0 ≡ suc n + h.at = ap (λ (q : PkgIx). q.0) h.is in omega arith

above : (n : ℕ) (bs : List Bool) → All (λ p. n < p.0) (places_from (suc n) bs)
above n bs = All-weaker (Contains (places_from (suc n) bs)) (λ p. n < p.0) (λ p c. higher n bs p (is_place (suc n) bs p c)) (places_from (suc n) bs) (All-contains_itself (places_from (suc n) bs))

rising : (n : ℕ) (bs : List Bool) → AllPairs (λ (a b : PkgIx). a.0 < b.0) (places_from n bs)
rising n [] = λ i j d h w. absurd (omega arith)
rising n (true ∷ bs) = AllPairs-cons (λ (a b : PkgIx). a.0 < b.0) (place n) (places_from (suc n) bs) (above n bs) (rising (suc n) bs)
rising n (false ∷ bs) = rising (suc n) bs

-- the marked places are what is reached
pub is_reach : (packages : List Package) (from : ℕ) (seen : List Bool) (order : List ℕ) → IsMarked seen order → AreReached packages from order → IsReach packages from (places_from 0 seen)
is_reach packages from seen order m r = record {
  rises = rising 0 seen;
  reached = λ p c.
      let h = is_place 0 seen p c in
      subst (λ (j : ℕ). Reaches packages from j) (sym (ap (λ (q : PkgIx). q.0) h.is ∙ omega arith)) (r.sound h.at (m.listed h.at h.mark));
  all = λ p t. subst (λ (j : ℕ). Contains (places_from 0 seen) (place j)) (omega arith) (has_place 0 seen p.0 (m.marked p.0 (r.complete p.0 t)));
}
