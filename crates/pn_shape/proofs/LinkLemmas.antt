-- The edges of one node, and the dependencies that they are.
use Rattle.std.proofs.Common.{◌≡◌, List, [], ◌∷◌, ◌++◌, Bool, true, false, Option, Some, None, refl, sym, ap, ◌∙◌, subst, inl, inr, append_assoc}
use Rattle.std.specs.List.{All, Contains}
use Rattle.std.specs.Prelude.{cond}
use Rattle.std.proofs.lemmas.Bool.{eqb-true}
use Rattle.std.proofs.lemmas.List.{append-nil}
use Rattle.std.proofs.lemmas.Option.{none-some, same_Some}
use Rattle.std.proofs.lemmas.List.Elements.{filter-append, All-filter, Contains-append_left, Contains-append_right, Contains-append_cases}
use Rattle.pn_text.proofs.Members.{none_in, in_cons, here, there}
use Rattle.pn_graph.specs.declared.links.Dep.{Dep}
use Rattle.pn_walk.specs.declared.wish.Place.{Place}
use Rattle.pn_walk.specs.declared.wish.Place.TheVariants.{Project as at_project, Package as at_package}
use Rattle.pn_walk.specs.Walks.{Link, same_place}
use Rattle.pn_walk.proofs.FilterLemmas.{in_filter, to_filter}
use Rattle.pn_walk.proofs.GraphLemmas.{place_self}
use Rattle.pn_shape.specs.Shapes.{at_of, dep_to, deps_in, links_by, deps_by}

deps_append : (xs ys : List Link) → deps_in (xs ++ ys) ≡ deps_in xs ++ deps_in ys
deps_append [] ys = refl
deps_append (x ∷ xs) ys = ap (λ (l : List Dep). dep_to x.turn x.to ++ l) (deps_append xs ys) ∙ sym (append_assoc (dep_to x.turn x.to) (deps_in xs) (deps_in ys))

-- one edge more
pub deps_more : (who : Place) (links : List Link) (l : Link) → deps_by who (links ++ l ∷ []) ≡ deps_by who links ++ deps_by who (l ∷ [])
deps_more who links l = ap deps_in (filter-append (λ (x : Link). same_place x.turn.who who) links (l ∷ [])) ∙ deps_append (links_by who links) (links_by who (l ∷ []))

-- it is the node's
pub one_own : (who : Place) (l : Link) → same_place l.turn.who who ≡ true → deps_by who (l ∷ []) ≡ dep_to l.turn l.to
one_own who l h = ap (λ (b : Bool). deps_in (cond b (l ∷ []) [])) h ∙ append-nil (dep_to l.turn l.to)

-- or another's
pub one_other : (who : Place) (l : Link) → same_place l.turn.who who ≡ false → deps_by who (l ∷ []) ≡ []
one_other who l h = ap (λ (b : Bool). deps_in (cond b (l ∷ []) [])) h

-- or leads nowhere
pub one_absent : (who : Place) (l : Link) → dep_to l.turn l.to ≡ [] → deps_by who (l ∷ []) ≡ []
one_absent who l h = elim (same_place l.turn.who who) as (λ b. deps_in (cond b (l ∷ []) []) ≡ []) [
  | true ↦ append-nil (dep_to l.turn l.to) ∙ h
  | false ↦ refl
]

pub others_stay : (who : Place) (links : List Link) (l : Link) → deps_by who (l ∷ []) ≡ [] → deps_by who links ≡ deps_by who (links ++ l ∷ [])
others_stay who links l h = sym (append-nil (deps_by who links)) ∙ ap (λ (x : List Dep). deps_by who links ++ x) (sym h) ∙ sym (deps_more who links l)

-- the dependency that an edge to a place is
abbrev pub dep_at : Link → Place → Dep
dep_at l p = record { alias = l.turn.wish.alias; specifier = l.turn.wish.specifier; to = at_of p; optional = l.turn.wish.optional }

-- A dependency of these edges is one of them that leads somewhere.
pub record IsOneOf (links : List Link) (d : Dep) : Type 0 where
  pub link : Link
  pub has : Contains links link
  pub place : Place
  pub leads : link.to ≡ Some place
  pub is : dep_at link place ≡ d

first_of_link : (l : Link) (ls : List Link) (o : Option Place) (d : Dep) → l.to ≡ o → Contains (dep_to l.turn o) d → IsOneOf (l ∷ ls) d
first_of_link l ls None d is c = absurd (none_in d c)
first_of_link l ls (Some p) d is c = record {
  link = l;
  has = here l ls;
  place = p;
  leads = is;
  is = elim (in_cons (dep_at l p) [] d c) [ inl e ↦ e | inr x ↦ absurd (none_in d x) ];
}

pub one_of : (links : List Link) (d : Dep) → Contains (deps_in links) d → IsOneOf links d
one_of [] d c = absurd (none_in d c)
one_of (l ∷ ls) d c = elim (Contains-append_cases (dep_to l.turn l.to) (deps_in ls) d c) [
  | inl h ↦ first_of_link l ls l.to d refl h
  | inr h ↦ let o = one_of ls d h in record { link = o.link; has = there l ls o.link o.has; place = o.place; leads = o.leads; is = o.is }
]

dep_there : (l : Link) (o : Option Place) (p : Place) (d : Dep) → o ≡ Some p
    → dep_at l p ≡ d → Contains (dep_to l.turn o) d
dep_there l None p d h is = absurd (none-some p h)
dep_there l (Some q) p d h is = subst (λ (x : Dep). Contains (dep_to l.turn (Some q)) x) (ap (dep_at l) (same_Some q p h) ∙ is) (here (dep_at l q) [])

pub dep_of_one : (links : List Link) (l : Link) (p : Place) (d : Dep) → Contains links l → l.to ≡ Some p
    → dep_at l p ≡ d → Contains (deps_in links) d
dep_of_one [] l p d c h is = absurd (none_in l c)
dep_of_one (x ∷ xs) l p d c h is = elim (in_cons x xs l c) [
  | inl e ↦ Contains-append_left (dep_to x.turn x.to) (deps_in xs) d (subst (λ (y : Link). Contains (dep_to y.turn y.to) d) (sym e) (dep_there l l.to p d h is))
  | inr i ↦ Contains-append_right (dep_to x.turn x.to) (deps_in xs) d (dep_of_one xs l p d i h is)
]

-- places that the test finds equal are
pub place_is : (p q : Place) → same_place p q ≡ true → p ≡ q
place_is (at_project a) (at_project b) h = ap at_project (eqb-true a b h)
place_is (at_project a) (at_package b) h = cc h
place_is (at_package a) (at_project b) h = cc h
place_is (at_package a) (at_package b) h = ap at_package (eqb-true a b h)

-- the edges of a node are those with it as asker
pub from_by : (who : Place) (links : List Link) (l : Link) → Contains (links_by who links) l → Contains links l × (l.turn.who ≡ who)
from_by who links l c = let r = in_filter (λ (x : Link). same_place x.turn.who who) links l c in (r.0, place_is l.turn.who who r.1)

pub into_by : (who : Place) (links : List Link) (l : Link) → Contains links l → l.turn.who ≡ who → Contains (links_by who links) l
into_by who links l c h = to_filter (λ (x : Link). same_place x.turn.who who) links l c (ap (λ (p : Place). same_place p who) h ∙ place_self who)

pub all_by : (P : Link → Type 0) (who : Place) (links : List Link) → All P links → All P (links_by who links)
all_by P who links h = All-filter (λ (l : Link). same_place l.turn.who who) P links h
