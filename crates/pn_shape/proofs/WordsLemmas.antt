-- The dependencies of a shape are what wishes lead to.
use Rattle.std.proofs.Common.{◌≡◌, ◌+◌, ℕ, zero, suc, List, [], ◌∷◌, ◌++◌, Bool, true, Option, Some, None, map, refl, sym, ap, ◌∙◌, subst, arith, inl, inr}
use Rattle.std.specs.Prelude.{slice_get}
use Rattle.std.specs.List.{All, Contains}
use Rattle.std.proofs.lemmas.List.Elements.{All-contains, Contains-append_left, Contains-append_right, Contains-append_cases}
use Rattle.pn_text.proofs.Members.{none_in, in_cons, here, there, from_map, to_map}
use Rattle.pn_text.specs.declared.index.PkgIx.{PkgIx}
use Rattle.pn_walk.specs.declared.node.Node.{Node}
use Rattle.pn_walk.specs.declared.wish.Aim.{Aim}
use Rattle.pn_walk.specs.declared.wish.Aim.TheVariants.{Project as to_project, Package as to_package}
use Rattle.pn_walk.specs.declared.wish.Place.{Place}
use Rattle.pn_walk.specs.declared.wish.Place.TheVariants.{Project as at_project, Package as at_package}
use Rattle.pn_walk.specs.declared.wish.Wish.{Wish}
use Rattle.pn_walk.specs.Graphs.{id_of, turn_of, IsAt, IsRight, IsGraph, Reaches}
use Rattle.pn_walk.specs.WalkLaws.{AreSettled}
use Rattle.pn_walk.specs.Walks.{Turn, Link, State, turn_by, turns_of, same_place, asked_by, IsOfProject}
use Rattle.pn_walk.specs.Wants.{Id}
use Rattle.pn_graph.specs.declared.links.At.TheVariants.{Package as at_ix}
use Rattle.pn_graph.specs.declared.links.Dep.{Dep}
use Rattle.pn_graph.specs.declared.links.Package.{Package}
use Rattle.pn_graph.specs.declared.links.Project.{Project}
use Rattle.pn_shape.specs.Shapes.{at_of, dep_to, deps_in, links_by, deps_by, projects_from, IsPackageOf, ArePackagesFrom, all_met, next, IsShape}
use Rattle.pn_shape.specs.Words.{AreLinks, HasNode, wishes_at, IsInWords}
use Rattle.pn_walk.proofs.FilterLemmas.{in_filter, to_filter}
use Rattle.pn_walk.proofs.GraphLemmas.{place_self}
use Rattle.pn_shape.proofs.LinkLemmas.{place_is}
use Rattle.pn_shape.proofs.ListLemmas.{place_in, at_place, get_from_map}

-- a dependency of an edge, and the edge of a dependency
record IsDepOf (who : Place) (links : List Link) (d : Dep) : Type 0 where
  link : Link
  has : Contains links link
  asks : link.turn.who ≡ who
  place : Place
  to : link.to ≡ Some place
  is : d ≡ record { alias = link.turn.wish.alias; specifier = link.turn.wish.specifier; to = at_of place; optional = link.turn.wish.optional }

in_dep : (e : Turn) (to : Option Place) (d : Dep) → Contains (dep_to e to) d → (p : Place) × (to ≡ Some p) × (d ≡ record { alias = e.wish.alias; specifier = e.wish.specifier; to = at_of p; optional = e.wish.optional })
in_dep e None d h = absurd (none_in d h)
in_dep e (Some p) d h = elim (Contains-append_cases (record { alias = e.wish.alias; specifier = e.wish.specifier; to = at_of p; optional = e.wish.optional } ∷ []) [] d h) [
  | inl c ↦ (p, refl, one c)
  | inr c ↦ absurd (none_in d c)
]
  where
    one : Contains (record { alias = e.wish.alias; specifier = e.wish.specifier; to = at_of p; optional = e.wish.optional } ∷ []) d → d ≡ record { alias = e.wish.alias; specifier = e.wish.specifier; to = at_of p; optional = e.wish.optional }
    one c = elim (in_cons _ [] d c) [ inl i ↦ sym i | inr n ↦ absurd (none_in d n) ]

in_deps : (links : List Link) (d : Dep) → Contains (deps_in links) d → (l : Link) × Contains links l × Contains (dep_to l.turn l.to) d
in_deps [] d h = absurd (none_in d h)
in_deps (l ∷ ls) d h = elim (Contains-append_cases (dep_to l.turn l.to) (deps_in ls) d h) [
  | inl c ↦ (l, here l ls, c)
  | inr c ↦ let r = in_deps ls d c in (r.0, there l ls r.0 r.1, r.2)
]

to_deps : (links : List Link) (l : Link) (d : Dep) → Contains links l → Contains (dep_to l.turn l.to) d → Contains (deps_in links) d
to_deps [] l d h c = absurd (none_in l h)
to_deps (k ∷ ls) l d h c = elim (in_cons k ls l h) [
  | inl e ↦ Contains-append_left (dep_to k.turn k.to) (deps_in ls) d (subst (λ (x : Link). Contains (dep_to x.turn x.to) d) (sym e) c)
  | inr i ↦ Contains-append_right (dep_to k.turn k.to) (deps_in ls) d (to_deps ls l d i c)
]

dep_of : (who : Place) (links : List Link) (d : Dep) → Contains (deps_by who links) d → IsDepOf who links d
dep_of who links d h =
    let r = in_deps (links_by who links) d h in
    let f = in_filter (λ (l : Link). same_place l.turn.who who) links r.0 r.1 in
    let e = in_dep r.0.turn r.0.to d r.2 in
    record { link = r.0; has = f.0; asks = place_is r.0.turn.who who f.1; place = e.0; to = e.1; is = e.2 }

-- the dependency of an edge that leads to a place
dep_from : (who : Place) (links : List Link) (l : Link) (p : Place) → Contains links l → l.turn.who ≡ who → l.to ≡ Some p
    → Contains (deps_by who links) (record { alias = l.turn.wish.alias; specifier = l.turn.wish.specifier; to = at_of p; optional = l.turn.wish.optional })
dep_from who links l p c asks to =
    let d : Dep = record { alias = l.turn.wish.alias; specifier = l.turn.wish.specifier; to = at_of p; optional = l.turn.wish.optional } in
    to_deps (links_by who links) l d (to_filter (λ (l : Link). same_place l.turn.who who) links l c (subst (λ (w : Place). same_place l.turn.who w ≡ true) asks (place_self l.turn.who)))
    (subst (λ (o : Option Place). Contains (dep_to l.turn o) d) (sym to) (here d []))

-- the package at a place is that of the node there
package_at : (links : List Link) (k : ℕ) (ns : List Node) (ps : List Package) → ArePackagesFrom links k ns ps → (j : ℕ) (n : Node) → slice_get ns j ≡ Some n → (p : Package) × (slice_get ps j ≡ Some p) × IsPackageOf links (k + j) n p
package_at links _ _ _ (all_met k) j n h = absurd (none_some h)
  where
    none_some : None ≡ Some n → ⊥
    none_some e = cc e
package_at links _ _ _ (next k m ms p ps is more) zero n h = (p, refl, first)
  where
    same : m ≡ n
    same = cc h

    first : IsPackageOf links (k + 0) n p
    first = subst (λ (i : ℕ). IsPackageOf links i n p) (omega arith) (subst (λ (x : Node). IsPackageOf links k x p) same is)
package_at links _ _ _ (next k m ms p ps is more) (suc j) n h =
    let r = package_at links (suc k) ms ps more j n h in
    (r.0, r.1, subst (λ (i : ℕ). IsPackageOf links i n r.0) (omega arith) r.2)

-- what an edge leads to, by its place
aim_at : (met : List Node) (a : Option Aim) (to : Option Place) (p : PkgIx) (q : Place) → IsAt met a to → to ≡ Some q → at_of q ≡ at_ix p → (i : Id) × (a ≡ Some (to_package i)) × (slice_get (map id_of met) p.0 ≡ Some i)
aim_at met None to p q h e f = absurd (cc (h, e))
aim_at met (Some (to_project r)) to p q h e f = absurd (other (cc (h, e)) f)
  where
    other : at_project r ≡ q → at_of q ≡ at_ix p → ⊥
    other s t = absurd (cc (ap at_of s ∙ t))
aim_at met (Some (to_package i)) to p q h e f = (i, refl, subst (λ (k : ℕ). slice_get (map id_of met) k ≡ Some i) (same (cc (h.1, e)) f) h.2)
  where
    same : at_package h.0 ≡ q → at_of q ≡ at_ix p → h.0 ≡ p.0
    same s t = number (ap at_of s ∙ t)
      where
        here_ix : PkgIx
        here_ix = record { 0 = h.0 }

        number : at_ix here_ix ≡ at_ix p → h.0 ≡ p.0
        number u = let v : here_ix ≡ p = cc u in ap (λ (x : PkgIx). x.0) v

-- what wishes lead to is what the node's edges do, where it asks for just these
links_are : (leads : Wish → Option Aim → Type 0) (node : Node → Type 0) → AreSettled leads node → (own : List Turn) (t : State) (packages : List Package) (who : Place) (ws : List Wish) → IsGraph leads node own t.met t.links
    → ArePackagesFrom t.links 0 t.met packages → ((w : Wish) → Contains ws w → Contains (asked_by who (map turn_of t.links)) (turn_by who w)) → ((e : Turn) → Contains (asked_by who (map turn_of t.links)) e → Contains ws e.wish)
    → AreLinks leads packages ws (deps_by who t.links)
links_are leads node settled own t packages who ws g are from to = record {
  from = λ w i c aims.
      let f = in_filter (λ (e : Turn). same_place e.who who) (map turn_of t.links) (turn_by who w) (from w c) in
      let l = from_map turn_of t.links (turn_by who w) f.0 in
      let r = All-contains (IsRight leads t.met) t.links l.0 g.right l.1 in
      let same : l.0.turn.wish ≡ w = ap (λ (e : Turn). e.wish) l.2 in
      let aim : r.aim ≡ Some (to_package i) = settled.one_aim w r.aim (Some (to_package i)) (subst (λ (x : Wish). leads x r.aim) same r.aims) aims in
      let at : IsAt t.met (Some (to_package i)) l.0.to = subst (λ (a : Option Aim). IsAt t.met a l.0.to) aim r.at in
      let n = get_from_map id_of t.met at.0 i at.2 in
      let p = package_at t.links 0 t.met packages are at.0 n.0 n.1 in
      record {
        dep = record { alias = l.0.turn.wish.alias; specifier = l.0.turn.wish.specifier; to = at_of (at_package at.0); optional = l.0.turn.wish.optional };
        has = dep_from who t.links l.0 (at_package at.0) l.1 (ap (λ (e : Turn). e.who) l.2) at.1;
        called = ap (λ (x : Wish). x.alias) same;
        place = record { 0 = at.0 };
        to = refl;
        found = p.0;
        there = p.1;
        id = p.2.id ∙ n.2;
      };
  to = λ alias i h.
      let x = dep_of who t.links h.dep h.has in
      let r = All-contains (IsRight leads t.met) t.links x.link g.right x.has in
      let a = aim_at t.met r.aim x.link.to h.place x.place r.at x.to (sym (ap (λ (d : Dep). d.to) x.is) ∙ h.to) in
      let n = get_from_map id_of t.met h.place.0 a.0 a.2 in
      let p = package_at t.links 0 t.met packages are h.place.0 n.0 n.1 in
      let found : p.0 ≡ h.found = one p.0 h.found (sym p.1 ∙ h.there) in
      let is : a.0 ≡ i = sym n.2 ∙ sym p.2.id ∙ ap (λ (y : Package). y.id) found ∙ h.id in
      let asks = to_filter (λ (e : Turn). same_place e.who who) (map turn_of t.links) x.link.turn (to_map turn_of t.links x.link x.has) (subst (λ (w : Place). same_place x.link.turn.who w ≡ true) x.asks (place_self x.link.turn.who)) in
      (x.link.turn.wish, to x.link.turn asks, sym (ap (λ (d : Dep). d.alias) x.is) ∙ h.called, subst (leads x.link.turn.wish) (a.1 ∙ ap (λ (j : Id). Some (to_package j)) is) r.aims);
}
  where
    one : (p q : Package) → Some p ≡ Some q → p ≡ q
    one p q e = cc e

-- the edges of packages
in_turns : (j : ℕ) (ns : List Node) (k : ℕ) (n : Node) (w : Wish) → slice_get ns k ≡ Some n → Contains n.wishes w → Contains (turns_of j ns) (turn_by (at_package (j + k)) w)
in_turns j [] k n w h c = absurd (cc h)
in_turns j (m ∷ ns) zero n w h c =
    let same : m ≡ n = cc h in
    Contains-append_left (map (turn_by (at_package j)) m.wishes) (turns_of (suc j) ns) (turn_by (at_package (j + 0)) w)
    (subst (λ (i : ℕ). Contains (map (turn_by (at_package j)) m.wishes) (turn_by (at_package i) w)) (omega arith) (to_map (turn_by (at_package j)) m.wishes w (subst (λ (x : Node). Contains x.wishes w) (sym same) c)))
in_turns j (m ∷ ns) (suc k) n w h c =
    Contains-append_right (map (turn_by (at_package j)) m.wishes) (turns_of (suc j) ns) (turn_by (at_package (j + suc k)) w)
    (subst (λ (i : ℕ). Contains (turns_of (suc j) ns) (turn_by (at_package i) w)) (omega arith) (in_turns (suc j) ns k n w h c))

record IsTurnOf (j : ℕ) (ns : List Node) (e : Turn) : Type 0 where
  place : ℕ
  node : Node
  there : slice_get ns place ≡ Some node
  who : e.who ≡ at_package (j + place)
  has : Contains node.wishes e.wish

from_turns : (j : ℕ) (ns : List Node) (e : Turn) → Contains (turns_of j ns) e → IsTurnOf j ns e
from_turns j [] e c = absurd (none_in e c)
from_turns j (n ∷ ns) e c = elim (Contains-append_cases (map (turn_by (at_package j)) n.wishes) (turns_of (suc j) ns) e c) [
  | inl h ↦
      let w = from_map (turn_by (at_package j)) n.wishes e h in
      record { place = 0; node = n; there = refl; who = sym (ap (λ (x : Turn). x.who) w.2) ∙ ap at_package (omega arith); has = subst (Contains n.wishes) (ap (λ (x : Turn). x.wish) w.2) w.1 }
  | inr h ↦
      let r = from_turns (suc j) ns e h in
      record { place = suc r.place; node = r.node; there = r.there; who = r.who ∙ ap at_package (omega arith); has = r.has }
]

-- the project at a place
project_at : (j : ℕ) (fs : List (List ℕ)) (links : List Link) (q : ℕ) (p : Project) → slice_get (projects_from j fs links) q ≡ Some p → p.deps ≡ deps_by (at_project (j + q)) links
project_at j [] links q p h = absurd (cc h)
project_at j (f ∷ fs) links zero p h =
    let same : record { folder = f; deps = deps_by (at_project j) links; autos = [] } ≡ p = cc h in
    sym (ap (λ (x : Project). x.deps) same) ∙ ap (λ (i : ℕ). deps_by (at_project i) links) (omega arith)
project_at j (f ∷ fs) links (suc q) p h = project_at (suc j) fs links q p h ∙ ap (λ (i : ℕ). deps_by (at_project i) links) (omega arith)

-- edges of projects alone
are_projects : (own : List Turn) (k : ℕ) (e : Turn) → All (λ (e : Turn). IsOfProject e.who) own → e.who ≡ at_package k → Contains own e → ⊥
are_projects own k e all who c = subst IsOfProject who (All-contains (λ (e : Turn). IsOfProject e.who) own e all c)

package_in : (leads : Wish → Option Aim → Type 0) (node : Node → Type 0) → AreSettled leads node → (own : List Turn) (t : State) (packages : List Package) → All (λ (e : Turn). IsOfProject e.who) own → IsGraph leads node own t.met t.links
    → ArePackagesFrom t.links 0 t.met packages → (n : Node) → Reaches leads node own n.id → node n → HasNode leads packages n
package_in leads node settled own t packages all g are n reached is =
    let m = from_map id_of t.met n.id (g.complete n.id reached) in
    let same : m.0 ≡ n = settled.one_node m.0 n (All-contains node t.met m.0 g.nodes m.1) is m.2 in
    let at = place_in t.met n (subst (Contains t.met) same m.1) in
    let who = at_package at.0 in
    let test : Turn → Bool = λ e. same_place e.who who in
    let p = package_at t.links 0 t.met packages are at.0 n at.1 in
    let here : IsPackageOf t.links at.0 n p.0 = subst (λ (k : ℕ). IsPackageOf t.links k n p.0) (omega arith) p.2 in
    record {
      found = p.0;
      has = at_place packages at.0 p.0 p.1;
      id = here.id;
      links = subst (AreLinks leads packages n.wishes) (sym here.deps) (links_are leads node settled own t packages who n.wishes g are
          (λ w c. subst (λ (l : List Turn). Contains l (turn_by who w)) (sym (g.edges who)) (to_filter test (own ++ turns_of 0 t.met) (turn_by who w)
          (Contains-append_right own (turns_of 0 t.met) (turn_by who w) (subst (λ (k : ℕ). Contains (turns_of 0 t.met) (turn_by (at_package k) w)) (omega arith) (in_turns 0 t.met at.0 n w at.1 c))) (place_self who)))
          (λ e c. asked e at.0 at.1 (in_filter test (own ++ turns_of 0 t.met) e (subst (λ (l : List Turn). Contains l e) (g.edges who) c))));
    }
  where
    one : (a b : Node) → Some a ≡ Some b → a ≡ b
    one a b e = cc e

    number : (j k : ℕ) → at_package j ≡ at_package k → j ≡ k
    number j k e = cc e

    asked : (e : Turn) (k : ℕ) → slice_get t.met k ≡ Some n → Contains (own ++ turns_of 0 t.met) e × (same_place e.who (at_package k) ≡ true) → Contains n.wishes e.wish
    asked e k there h =
        let asks : e.who ≡ at_package k = place_is e.who (at_package k) h.1 in
        elim (Contains-append_cases own (turns_of 0 t.met) e h.0) [
          | inl mine ↦ absurd (are_projects own k e all asks mine)
          | inr theirs ↦
              let x = from_turns 0 t.met e theirs in
              let place : x.place ≡ k = omega (arith, number (0 + x.place) k (sym x.who ∙ asks)) in
              let same : x.node ≡ n = one x.node n (sym x.there ∙ ap (slice_get t.met) place ∙ there) in
              subst (λ (y : Node). Contains y.wishes e.wish) same x.has
        ]

project_in : (leads : Wish → Option Aim → Type 0) (node : Node → Type 0) → AreSettled leads node → (own : List Turn) (folders : List (List ℕ)) (t : State) (packages : List Package) → IsGraph leads node own t.met t.links
    → ArePackagesFrom t.links 0 t.met packages → (q : ℕ) (p : Project) → slice_get (projects_from 0 folders t.links) q ≡ Some p → AreLinks leads packages (wishes_at q own) p.deps
project_in leads node settled own folders t packages g are q p there =
    let who = at_project q in
    let test : Turn → Bool = λ e. same_place e.who who in
    let deps : p.deps ≡ deps_by who t.links = project_at 0 folders t.links q p there ∙ ap (λ (k : ℕ). deps_by (at_project k) t.links) (omega arith) in
    subst (AreLinks leads packages (wishes_at q own)) (sym deps) (links_are leads node settled own t packages who (wishes_at q own) g are
    (λ w c.
    let e = from_map (λ (e : Turn). e.wish) (asked_by who own) w c in
    let f = in_filter test own e.0 e.1 in
    let same : e.0 ≡ turn_by who w = λ i. record { who = place_is e.0.who who f.1 i; wish = e.2 i } in
    subst (λ (x : Turn). Contains (asked_by who (map turn_of t.links)) x) same
    (subst (λ (l : List Turn). Contains l e.0) (sym (g.edges who)) (to_filter test (own ++ turns_of 0 t.met) e.0 (Contains-append_left own (turns_of 0 t.met) e.0 f.0) f.1)))
    (λ e c. asked e (in_filter test (own ++ turns_of 0 t.met) e (subst (λ (l : List Turn). Contains l e) (g.edges who) c))))
  where
    other : (j k : ℕ) → at_package j ≡ at_project k → ⊥
    other j k e = cc e

    asked : (e : Turn) → Contains (own ++ turns_of 0 t.met) e × (same_place e.who (at_project q) ≡ true) → Contains (wishes_at q own) e.wish
    asked e h = elim (Contains-append_cases own (turns_of 0 t.met) e h.0) [
      | inl mine ↦ to_map (λ (e : Turn). e.wish) (asked_by (at_project q) own) e (to_filter (λ (e : Turn). same_place e.who (at_project q)) own e mine h.1)
      | inr theirs ↦
          let x = from_turns 0 t.met e theirs in
          absurd (other (0 + x.place) q (sym x.who ∙ place_is e.who (at_project q) h.1))
    ]

-- A shape of the graph of what projects ask for has what wishes lead to, and nothing else.
pub words : (leads : Wish → Option Aim → Type 0) (node : Node → Type 0) → AreSettled leads node → (own : List Turn) (folders : List (List ℕ)) (t : State) (projects : List Project) (packages : List Package)
    → All (λ (e : Turn). IsOfProject e.who) own → IsGraph leads node own t.met t.links → IsShape folders t projects packages → IsInWords leads node own projects packages
words leads node settled own folders t projects packages all g shape = record {
  package_has = λ n reached is. package_in leads node settled own t packages all g shape.packages_are n reached is;
  project_has = λ q p there. project_in leads node settled own folders t packages g shape.packages_are q p (subst (λ (l : List Project). slice_get l q ≡ Some p) shape.projects_are there);
}
