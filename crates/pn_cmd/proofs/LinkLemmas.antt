-- The links of a graph's node are its dependencies on packages.
use Rattle.std.proofs.Common.{◌≡◌, ℕ, List, [], ◌∷◌, true, Some, None, refl, sym, ap, ◌∙◌, subst, inl, inr}
use Rattle.std.specs.Prelude.{slice_get}
use Rattle.std.specs.List.{Contains}
use Rattle.std.proofs.lemmas.List.Elements.{Contains-append_left, Contains-append_right, Contains-append_cases}
use Rattle.pn_text.proofs.Members.{none_in, in_cons, in_one, here, there}
use Rattle.pn_text.specs.Ids.{is_id}
use Rattle.pn_text.specs.declared.index.PkgIx.{PkgIx}
use Rattle.pn_graph.specs.Lookups.{package_id}
use Rattle.pn_graph.specs.declared.links.At.{At}
use Rattle.pn_graph.specs.declared.links.At.TheVariants.{Project as to_project, Package as to_package}
use Rattle.pn_graph.specs.declared.links.Dep.{Dep}
use Rattle.pn_graph.specs.declared.links.Package.{Package}
use Rattle.pn_shape.specs.Words.{LeadsTo}
use Rattle.pn_package.specs.Links.{Id, Pair}
use Rattle.pn_collect.specs.Outline.{link_to, links_of}

in_link : (packages : List Package) (d : Dep) (place : PkgIx) (found : Package) (i : Id) → d.to ≡ to_package place → slice_get packages place.0 ≡ Some found → found.id ≡ i → Contains (link_to packages d.alias d.to) (d.alias, i)
in_link packages d place found i to there id =
    let is : package_id (slice_get packages place.0) ≡ i = ap package_id there ∙ id in
    subst (λ (a : At). Contains (link_to packages d.alias a) (d.alias, i)) (sym to) (subst (λ (x : Id). Contains {X = Pair} ((d.alias, x) ∷ []) (d.alias, i)) (sym is) (here (d.alias, i) []))

-- a dependency on a package is a link
pub link_in : (packages : List Package) (deps : List Dep) (alias : List ℕ) (i : Id) → LeadsTo packages deps alias i → Contains (links_of packages deps) (alias, i)
link_in packages deps alias i h = subst (λ (a : List ℕ). Contains (links_of packages deps) (a, i)) h.called (among deps h.has)
  where
    among : (ds : List Dep) → Contains ds h.dep → Contains (links_of packages ds) (h.dep.alias, i)
    among [] c = absurd (none_in h.dep c)
    among (d ∷ ds) c = elim (in_cons d ds h.dep c) [
      | inl e ↦ Contains-append_left (link_to packages d.alias d.to) (links_of packages ds) (h.dep.alias, i) (subst (λ (x : Dep). Contains (link_to packages x.alias x.to) (h.dep.alias, i)) (sym e) (in_link packages h.dep h.place h.found i h.to h.there h.id))
      | inr k ↦ Contains-append_right (link_to packages d.alias d.to) (links_of packages ds) (h.dep.alias, i) (among ds k)
    ]

-- what a link comes from
record IsLinkOf (packages : List Package) (deps : List Dep) (l : Pair) : Type 0 where
  dep : Dep
  has : Contains deps dep
  called : dep.alias ≡ l.0
  place : PkgIx
  to : dep.to ≡ to_package place
  id : package_id (slice_get packages place.0) ≡ l.1

from_link : (packages : List Package) (d : Dep) (a : At) (l : Pair) → d.to ≡ a → Contains (link_to packages d.alias a) l → (place : PkgIx) × (d.to ≡ to_package place) × ((d.alias, package_id (slice_get packages place.0)) ≡ l)
from_link packages d (to_project q) l is c = absurd (none_in l c)
from_link packages d (to_package k) l is c = (k, is, in_one (d.alias, package_id (slice_get packages k.0)) l c)

link_of : (packages : List Package) (deps : List Dep) (l : Pair) → Contains (links_of packages deps) l → IsLinkOf packages deps l
link_of packages [] l c = absurd (none_in l c)
link_of packages (d ∷ ds) l c = elim (Contains-append_cases (link_to packages d.alias d.to) (links_of packages ds) l c) [
  | inl h ↦
      let r = from_link packages d d.to l refl h in
      record { dep = d; has = here d ds; called = ap (λ (x : Pair). x.0) r.2; place = r.0; to = r.1; id = ap (λ (x : Pair). x.1) r.2 }
  | inr h ↦
      let r = link_of packages ds l h in
      record { dep = r.dep; has = there d ds r.dep r.has; called = r.called; place = r.place; to = r.to; id = r.id }
]

-- a link to a package of the graph is a dependency on it
pub link_from : (packages : List Package) (deps : List Dep) (l : Pair) → is_id l.1 ≡ true → Contains (links_of packages deps) l → LeadsTo packages deps l.0 l.1
link_from packages deps l good c =
    let r = link_of packages deps l c in
    elim (slice_get packages r.place.0) as (λ o. slice_get packages r.place.0 ≡ o → LeadsTo packages deps l.0 l.1) [
      | Some found ↦ λ is. record { dep = r.dep; has = r.has; called = r.called; place = r.place; to = r.to; found = found; there = is; id = sym (ap package_id is) ∙ r.id }
      | None ↦ λ is. absurd (no_id (subst (λ (i : Id). is_id i ≡ true) (sym r.id ∙ ap package_id is) good))
    ] refl
  where
    no_id : is_id [] ≡ true → ⊥
    no_id h = cc h
