-- Lists of dependencies, as one edge more is gone through.
use Rattle.std.proofs.Common.{◌≡◌, ◌<◌, ◌≤◌, ◌+◌, ℕ, zero, suc, List, [], ◌∷◌, ◌++◌, true, false, length, get_or, refl, sym, ap, ◌∙◌, subst, arith}
use Rattle.std.specs.Prelude.{set, replicate, ◌==◌}
use Rattle.std.proofs.lemmas.Bool.{eq-eqb, ne_eqb}
use Rattle.std.proofs.lemmas.List.{length-set, length-replicate}
use Rattle.pn_graph.specs.declared.links.Dep.{Dep}
use Rattle.pn_walk.specs.declared.wish.Place.{Place}
use Rattle.pn_walk.specs.declared.wish.Place.TheVariants.{Project as at_project, Package as at_package}
use Rattle.pn_walk.specs.Walks.{Link, same_place}
use Rattle.pn_shape.specs.Shapes.{dep_to, deps_by}
use Rattle.pn_shape.specs.DepLists.{AreDepsFrom, AreDeps, HasDeps}
use Rattle.pn_shape.specs.Fits.{IsBetween}
use Rattle.pn_shape.specs.declared.lists.DepLists.{DepLists}
use Rattle.pn_shape.proofs.LinkLemmas.{deps_more, one_own, one_other, others_stay}

-- no edge of these nodes
rest_stay : (at : ℕ → Place) (k : ℕ) (links : List Link) (l : Link) (lists : List (List Dep)) → ((j : ℕ) → k ≤ j → deps_by (at j) (l ∷ []) ≡ []) → AreDepsFrom at k links lists → AreDepsFrom at k (links ++ l ∷ []) lists
rest_stay at k links l [] none h = tt
rest_stay at k links l (ds ∷ rest) none h = (
  h.0 ∙ others_stay (at k) links l (none k (omega arith)),
  rest_stay at (suc k) links l rest (λ j le. none j (omega arith)) h.1,
)

pub elsewhere : (at : ℕ → Place) (count : ℕ) (links : List Link) (l : Link) (lists : List (List Dep)) → ((j : ℕ) → deps_by (at j) (l ∷ []) ≡ []) → AreDeps at count links lists → AreDeps at count (links ++ l ∷ []) lists
elsewhere at count links l lists none h = record { long = h.long; each = rest_stay at 0 links l lists (λ j le. none j) h.each }

-- an edge of the node at a place
put_from : (at : ℕ → Place) → ((i j : ℕ) → same_place (at i) (at j) ≡ (i == j)) → (k q j : ℕ) (links : List Link) (l : Link) (dep : Dep) (lists : List (List Dep)) → j ≡ k + q → l.turn.who ≡ at j → q < length lists
    → dep_to l.turn l.to ≡ dep ∷ [] → AreDepsFrom at k links lists → AreDepsFrom at k (links ++ l ∷ []) (set lists q (get_or lists q [] ++ dep ∷ []))
put_from at same k q j links l dep [] place who lt is h = absurd (none q lt) where
  none : (q : ℕ) → q < 0 → ⊥
  none q h = omega (arith, h)
put_from at same k zero j links l dep (ds ∷ rest) place who lt is h =
    let here : j ≡ k = omega (arith, place) in
    let own : same_place l.turn.who (at k) ≡ true = ap (λ (p : Place). same_place p (at k)) (who ∙ ap at here) ∙ same k k ∙ eq-eqb k k refl in (
      ap (λ (x : List Dep). x ++ dep ∷ []) h.0 ∙ ap (λ (x : List Dep). deps_by (at k) links ++ x) (sym is ∙ sym (one_own (at k) l own)) ∙ sym (deps_more (at k) links l),
      rest_stay at (suc k) links l rest (λ i le. one_other (at i) l (ap (λ (p : Place). same_place p (at i)) who ∙ same j i ∙ ne_eqb j i (λ e. apart j k i here e le))) h.1,
    )
  where
    apart : (j k i : ℕ) → j ≡ k → j ≡ i → suc k ≤ i → ⊥
    apart j k i a b c = omega (arith, a, b, c)
put_from at same k (suc q) j links l dep (ds ∷ rest) place who lt is h =
    let later : j ≡ suc k + q = omega (arith, place) in
    let other : same_place l.turn.who (at k) ≡ false = ap (λ (p : Place). same_place p (at k)) who ∙ same j k ∙ ne_eqb j k (λ e. apart j k q later e) in (
      h.0 ∙ others_stay (at k) links l (one_other (at k) l other),
      put_from at same (suc k) q j links l dep rest later who (omega arith) is h.1,
    )
  where
    apart : (j k q : ℕ) → j ≡ suc k + q → j ≡ k → ⊥
    apart j k q a b = omega (arith, a, b)

pub put_here : (at : ℕ → Place) → ((i j : ℕ) → same_place (at i) (at j) ≡ (i == j)) → (count j : ℕ) (links : List Link) (l : Link) (dep : Dep) (old new : List (List Dep)) → l.turn.who ≡ at j → j < length old
    → dep_to l.turn l.to ≡ dep ∷ [] → new ≡ set old j (get_or old j [] ++ dep ∷ []) → AreDeps at count links old → AreDeps at count (links ++ l ∷ []) new
put_here at same count j links l dep old new who lt is made h = record {
  long = ap length made ∙ length-set old j (get_or old j [] ++ dep ∷ []) ∙ h.long;
  each = subst (AreDepsFrom at 0 (links ++ l ∷ [])) (sym made) (put_from at same 0 j j links l dep old (omega arith) who lt is h.each);
}

none_from : (at : ℕ → Place) (k n : ℕ) → AreDepsFrom at k [] (replicate n [])
none_from at k zero = tt
none_from at k (suc n) = (refl, none_from at (suc k) n)

-- no edge yet
pub none_yet : (at : ℕ → Place) (n : ℕ) (lists : List (List Dep)) → lists ≡ replicate n [] → AreDeps at n [] lists
none_yet at n lists is = record { long = ap length is ∙ length-replicate n []; each = subst (AreDepsFrom at 0 []) (sym is) (none_from at 0 n) }

-- a project's edge is no package's
pub no_package : (l : Link) (q : ℕ) → l.turn.who ≡ at_project q → (j : ℕ) → deps_by (at_package j) (l ∷ []) ≡ []
no_package l q who j = one_other (at_package j) l (ap (λ (p : Place). same_place p (at_package j)) who)

-- nor a package's a project's
pub no_project : (l : Link) (k : ℕ) → l.turn.who ≡ at_package k → (j : ℕ) → deps_by (at_project j) (l ∷ []) ≡ []
no_project l k who j = one_other (at_project j) l (ap (λ (p : Place). same_place p (at_project j)) who)

pub between_of : (p k : ℕ) (links : List Link) (lists : DepLists) (l : Link) → HasDeps p k links lists → IsBetween p k l → IsBetween (length lists.projects.items) (length lists.packages.items) l
between_of p k links lists l h is =
    subst (λ (i : ℕ). IsBetween i (length lists.packages.items) l) (sym h.projects_have.long) (subst (λ (j : ℕ). IsBetween p j l) (sym h.packages_have.long) is)
