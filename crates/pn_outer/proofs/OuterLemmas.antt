-- Outer pairs, by what a pair's holders pass on.
use Rattle.std.proofs.Common.{◌≡◌, ◌<◌, ◌≤◌, ℕ, ◌+◌, List, [], ◌∷◌, Bool, true, false, length, get_or, Some, inl, inr, ◌⊎◌, refl, sym, ap, ◌∙◌, subst, arith}
use Rattle.std.specs.Prelude.{slice_get}
use Rattle.std.specs.List.{Contains}
use Rattle.std.proofs.lemmas.Option.{slice_get_within}
use Rattle.pn_text.proofs.Members.{none_in}
use Rattle.pn_text.proofs.Results.{same_some}
use Rattle.pn_outer.specs.Instances.{DependsOn, Instance, Link, deps_at, has_alias, peers_at}
use Rattle.pn_outer.specs.Dependents.{AreDependents}
use Rattle.pn_outer.specs.Founds.{AddsPair, AreMet, AreNone, Gets, Passes, first, next}
use Rattle.pn_outer.specs.Provisions.{AreProvided}
use Rattle.pn_outer.specs.Outer.{AreOuter, HasNumber, IsNamed, IsOuter, OuterLaw, below, provided}

least : (instances : List Instance) (pair : Link) (set : ℕ → Bool) → ((i : ℕ) → Contains (peers_at instances i) pair → set i ≡ true)
    → ((i j : ℕ) → DependsOn instances i j → has_alias pair.name (deps_at instances i) ≡ false → set j ≡ true → set i ≡ true) → (i : ℕ) → IsOuter instances pair i → set i ≡ true
least instances pair set own passed _ (provided i c) = own i c
least instances pair set own passed _ (below i j d f o) = passed i j d f (least instances pair set own passed j o)

pub law : OuterLaw
law = record { least = least }

-- the instances that get the pair of a number
abbrev pub GetsPair : List Instance → List (List ℕ) → List (List ℕ) → ℕ → Link → ℕ → Type 0
GetsPair instances holders dependents p pair = Gets (Passes instances pair.name dependents) (Contains (get_or holders p []))

-- the rows have the first pairs
pub record AreSpread (instances : List Instance) (pairs : List Link) (holders dependents : List (List ℕ)) (count : ℕ) (rows : List (List ℕ)) : Type 0 where
  pub right : (i q : ℕ) → Contains (get_or rows i []) q → IsNamed instances pairs i q
  pub all : (i q : ℕ) (pair : Link) → q < count → slice_get pairs q ≡ Some pair → GetsPair instances holders dependents q pair i → Contains (get_or rows i []) q

pub none_spread : (instances : List Instance) (pairs : List Link) (holders dependents : List (List ℕ)) (rows : List (List ℕ)) → AreNone rows → AreSpread instances pairs holders dependents 0 rows
none_spread instances pairs holders dependents rows h = record {
  right = λ i q c. absurd (none_in q (subst (λ (r : List ℕ). Contains r q) (h i) c));
  all = λ i q pair lt at g. absurd (omega (arith, lt));
}

module _ (instances : List Instance) (pairs : List Link) (holders dependents : List (List ℕ)) (has : AreProvided instances pairs holders) (on : AreDependents instances dependents) where
  gets_outer : (p : ℕ) (pair : Link) → slice_get pairs p ≡ Some pair → (i : ℕ) → GetsPair instances holders dependents p pair i → IsOuter instances pair i
  gets_outer p pair at _ (first i c) = provided i (has.right i pair (record { number = p; at = at; holds = c }))
  gets_outer p pair at _ (next j i r o) = below i j (on.right j i o.among) o.free (gets_outer p pair at j r)

  -- A pair has a number, whose instances get it.
  record IsGot (pair : Link) (i : ℕ) : Type 0 where
    number : ℕ
    at : slice_get pairs number ≡ Some pair
    gets : GetsPair instances holders dependents number pair i

  outer_got : (pair : Link) (i : ℕ) → IsOuter instances pair i → IsGot pair i
  outer_got pair _ (provided i c) = let h = has.all i pair c in record { number = h.number; at = h.at; gets = first i h.holds }
  outer_got pair _ (below i j d f o) =
      let g = outer_got pair j o in
      record { number = g.number; at = g.at; gets = next j i g.gets (record { among = on.all j i d; free = f }) }

  split_less : (k n : ℕ) → k < n + 1 → (k < n) ⊎ (k ≡ n)
  split_less k n h = grind arith

  pub more_spread : (p : ℕ) (pair : Link) (order : List ℕ) (old new : List (List ℕ)) → slice_get pairs p ≡ Some pair
      → AreMet (Passes instances pair.name dependents) (Contains (get_or holders p [])) order → AddsPair p (Contains order) old new → AreSpread instances pairs holders dependents p old → AreSpread instances pairs holders dependents (p + 1) new
  more_spread p pair order old new at met adds h = record {
    right = λ i q c. elim (adds.only i q c) [
      | inl o ↦ h.right i q o
      | inr t ↦ record { pair = pair; at = ap (slice_get pairs) t.0 ∙ at; outer = gets_outer p pair at i (met.sound i t.1) }
    ];
    all = λ i q l lt is g. elim (split_less q p lt) [
      | inl low ↦ adds.kept i q (h.all i q l low is g)
      | inr e ↦ subst (λ (n : ℕ). Contains (get_or new i []) n) (sym e) (adds.added i (met.complete i (turned q l e is i g)))
    ];
  } where
    turned : (q : ℕ) (l : Link) → q ≡ p → slice_get pairs q ≡ Some l → (i : ℕ) → GetsPair instances holders dependents q l i → GetsPair instances holders dependents p pair i
    turned q l e is i g =
        let same : l ≡ pair = same_some l pair (sym is ∙ ap (slice_get pairs) e ∙ at) in
        subst (λ (x : Link). GetsPair instances holders dependents p x i) same (subst (λ (n : ℕ). GetsPair instances holders dependents n l i) e g)

  pub are_outer : (n : ℕ) (rows : List (List ℕ)) → length pairs ≤ n → length rows ≡ length instances → AreSpread instances pairs holders dependents n rows → AreOuter instances pairs rows
  are_outer n rows whole long h = record {
    count = long;
    right = h.right;
    all = λ i pair o.
        let g = outer_got pair i o in
        record { number = g.number; has = h.all i g.number pair (far g.number (slice_get_within pairs g.number pair g.at)) g.at g.gets; at = g.at };
  } where
    far : (k : ℕ) → k < length pairs → k < n
    far k h = omega arith
