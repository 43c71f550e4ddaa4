-- A walk's end has one shape, whose dependencies are its edges.
use Rattle.std.proofs.Common.{◌≡◌, ◌<◌, ◌+◌, ℕ, zero, suc, List, [], ◌∷◌, Bool, length, refl, sym, ap, ◌∙◌, subst, arith}
use Rattle.std.specs.Prelude.{slice_get}
use Rattle.std.specs.List.{Contains}
use Rattle.pn_text.proofs.Members.{none_in}
use Rattle.pn_ranges.specs.Limits.{Limit}
use Rattle.pn_ranges.proofs.Counts.{reading}
use Rattle.pn_manifest.specs.declared.peers.Peer.{Peer as SaidPeer}
use Rattle.pn_graph.specs.Lookups.{project_deps, package_deps, deps_at}
use Rattle.pn_graph.specs.PeerRanges.{IsPeerRange, spelled, other}
use Rattle.pn_graph.specs.declared.links.At.{At}
use Rattle.pn_graph.specs.declared.links.Dep.{Dep}
use Rattle.pn_graph.specs.declared.links.Package.{Package}
use Rattle.pn_graph.specs.declared.links.Project.{Project}
use Rattle.pn_graph.specs.declared.peer.Peer.{Peer}
use Rattle.pn_walk.specs.declared.node.Node.{Node}
use Rattle.pn_walk.specs.declared.wish.Place.{Place}
use Rattle.pn_walk.specs.declared.wish.Place.TheVariants.{Project as at_project, Package as at_package}
use Rattle.pn_walk.specs.Walks.{Link, State}
use Rattle.pn_shape.specs.Shapes.{at_of, links_by, deps_by, projects_from, IsPeerOf, ArePeersOf, no_more, one_more, IsPackageOf, ArePackagesFrom, all_met, next, IsShape}
use Rattle.pn_shape.specs.Fits.{IsPlace}
use Rattle.pn_shape.specs.ShapeLaws.{IsTaken, ShapeLaw}
use Rattle.pn_shape.proofs.LinkLemmas.{one_of, dep_of_one, from_by, into_by}

one_range : (text : List ℕ) (r s : List (List Limit)) → IsPeerRange text r → IsPeerRange text s → r ≡ s
one_range text r s (spelled a) (spelled b) = reading.one text r s a b
one_range text r s (spelled a) (other f b) = absurd (f r a)
one_range text r s (other f a) (spelled b) = absurd (f s b)
one_range text r s (other f a) (other g b) = reading.one _ r s a b

one_peer : (said : SaidPeer) (p q : Peer) → IsPeerOf said p → IsPeerOf said q → p ≡ q
one_peer said p q a b =
    ap (λ (x : List ℕ). record { name = x; range = p.range; text = p.text; optional = p.optional }) (a.name ∙ sym b.name)
    ∙ ap (λ (x : List (List Limit)). record { name = q.name; range = x; text = p.text; optional = p.optional }) (one_range said.text p.range q.range a.range b.range)
    ∙ ap (λ (x : List ℕ). record { name = q.name; range = q.range; text = x; optional = p.optional }) (a.text ∙ sym b.text)
    ∙ ap (λ (x : Bool). record { name = q.name; range = q.range; text = q.text; optional = x }) (a.optional ∙ sym b.optional)

-- the first of these peers and the others
record FirstPeer (said : SaidPeer) (others : List SaidPeer) (ps : List Peer) : Type 0 where
  first : Peer
  rest : List Peer
  split : ps ≡ first ∷ rest
  is : IsPeerOf said first
  more : ArePeersOf others rest

PeersIn : List SaidPeer → List Peer → Type 0
PeersIn [] ps = ps ≡ []
PeersIn (s ∷ ss) ps = FirstPeer s ss ps

peers_in : (ss : List SaidPeer) (ps : List Peer) → ArePeersOf ss ps → PeersIn ss ps
unfolding PeersIn
peers_in _ _ no_more = refl
peers_in _ _ (one_more s ss p ps is rest) = record { first = p; rest = ps; split = refl; is = is; more = rest }

one_peers : (ss : List SaidPeer) (ps qs : List Peer) → ArePeersOf ss ps → ArePeersOf ss qs → ps ≡ qs
unfolding PeersIn
one_peers [] ps qs a b = peers_in [] ps a ∙ sym (peers_in [] qs b)
one_peers (s ∷ ss) ps qs a b =
    let x : FirstPeer s ss ps = peers_in (s ∷ ss) ps a in
    let y : FirstPeer s ss qs = peers_in (s ∷ ss) qs b in
    x.split
    ∙ ap (λ (p : Peer). p ∷ x.rest) (one_peer s x.first y.first x.is y.is)
    ∙ ap (λ (l : List Peer). y.first ∷ l) (one_peers ss x.rest y.rest x.more y.more)
    ∙ sym y.split

one_package : (links : List Link) (k : ℕ) (n : Node) (p q : Package) → IsPackageOf links k n p → IsPackageOf links k n q → p ≡ q
one_package links k n p q a b =
    ap (λ (x : List ℕ). record { id = x; deps = p.deps; peers = p.peers }) (a.id ∙ sym b.id)
    ∙ ap (λ (x : List Dep). record { id = q.id; deps = x; peers = p.peers }) (a.deps ∙ sym b.deps)
    ∙ ap (λ (x : List Peer). record { id = q.id; deps = q.deps; peers = x }) (one_peers n.peers p.peers q.peers a.peers b.peers)

-- the first of these packages and the others
record FirstPackage (links : List Link) (k : ℕ) (n : Node) (ns : List Node) (ps : List Package) : Type 0 where
  first : Package
  rest : List Package
  split : ps ≡ first ∷ rest
  is : IsPackageOf links k n first
  more : ArePackagesFrom links (suc k) ns rest

PackagesIn : List Link → ℕ → List Node → List Package → Type 0
PackagesIn links k [] ps = ps ≡ []
PackagesIn links k (n ∷ ns) ps = FirstPackage links k n ns ps

packages_in : (links : List Link) (k : ℕ) (ns : List Node) (ps : List Package) → ArePackagesFrom links k ns ps → PackagesIn links k ns ps
unfolding PackagesIn
packages_in links _ _ _ (all_met k) = refl
packages_in links _ _ _ (next k n ns p ps is rest) = record { first = p; rest = ps; split = refl; is = is; more = rest }

one_list : (links : List Link) (k : ℕ) (ns : List Node) (ps qs : List Package) → ArePackagesFrom links k ns ps → ArePackagesFrom links k ns qs → ps ≡ qs
unfolding PackagesIn
one_list links k [] ps qs a b = packages_in links k [] ps a ∙ sym (packages_in links k [] qs b)
one_list links k (n ∷ ns) ps qs a b =
    let x : FirstPackage links k n ns ps = packages_in links k (n ∷ ns) ps a in
    let y : FirstPackage links k n ns qs = packages_in links k (n ∷ ns) qs b in
    x.split
    ∙ ap (λ (p : Package). p ∷ x.rest) (one_package links k n x.first y.first x.is y.is)
    ∙ ap (λ (l : List Package). y.first ∷ l) (one_list links (suc k) ns x.rest y.rest x.more y.more)
    ∙ sym y.split

-- a dependency of a node is one of its edges
taken : (links : List Link) (who : Place) (d : Dep) → Contains (deps_by who links) d → IsTaken links who d
taken links who d c =
    let o = one_of (links_by who links) d c in
    let by = from_by who links o.link o.has in
    record {
      link = o.link;
      has = by.0;
      asks = by.1;
      place = o.place;
      leads = o.leads;
      to = ap (λ (x : Dep). x.to) (sym o.is);
      alias = ap (λ (x : Dep). x.alias) (sym o.is);
      specifier = ap (λ (x : Dep). x.specifier) (sym o.is);
      optional = ap (λ (x : Dep). x.optional) (sym o.is);
    }

whole : (alias specifier : List ℕ) (to : At) (optional : Bool) (d : Dep) → d.to ≡ to → d.alias ≡ alias → d.specifier ≡ specifier → d.optional ≡ optional → record { alias = alias; specifier = specifier; to = to; optional = optional } ≡ d
whole alias specifier to optional d t a s o =
    ap (λ (x : List ℕ). record { alias = x; specifier = specifier; to = to; optional = optional }) (sym a)
    ∙ ap (λ (x : List ℕ). record { alias = d.alias; specifier = x; to = to; optional = optional }) (sym s)
    ∙ ap (λ (x : At). record { alias = d.alias; specifier = d.specifier; to = x; optional = optional }) (sym t)
    ∙ ap (λ (x : Bool). record { alias = d.alias; specifier = d.specifier; to = d.to; optional = x }) (sym o)

given : (links : List Link) (who : Place) (d : Dep) → IsTaken links who d → Contains (deps_by who links) d
given links who d k =
    let e = k.link.turn.wish in
    dep_of_one (links_by who links) k.link k.place d (into_by who links k.link k.has k.asks) k.leads (whole e.alias e.specifier (at_of k.place) e.optional d k.to k.alias k.specifier k.optional)

-- the dependencies of the project at a place
project_has : (j q : ℕ) (folders : List (List ℕ)) (links : List Link) (d : Dep) → Contains (project_deps (slice_get (projects_from j folders links) q)) d → Contains (deps_by (at_project (j + q)) links) d
project_has j q [] links d c = absurd (none_in d c)
project_has j zero (f ∷ fs) links d c =
    let z : j ≡ j + 0 = omega arith in
    subst (λ (i : ℕ). Contains (deps_by (at_project i) links) d) z c
project_has j (suc q) (f ∷ fs) links d c =
    let z : suc j + q ≡ j + suc q = omega arith in
    subst (λ (i : ℕ). Contains (deps_by (at_project i) links) d) z (project_has (suc j) q fs links d c)

has_project : (j q : ℕ) (folders : List (List ℕ)) (links : List Link) (d : Dep) → q < length folders → Contains (deps_by (at_project (j + q)) links) d → Contains (project_deps (slice_get (projects_from j folders links) q)) d
has_project j q [] links d lt c = absurd (omega arith)
has_project j zero (f ∷ fs) links d lt c =
    let z : j + 0 ≡ j = omega arith in
    subst (λ (i : ℕ). Contains (deps_by (at_project i) links) d) z c
has_project j (suc q) (f ∷ fs) links d lt c =
    let z : j + suc q ≡ suc j + q = omega arith in
    has_project (suc j) q fs links d (omega arith) (subst (λ (i : ℕ). Contains (deps_by (at_project i) links) d) z c)

-- those of the package at a place
package_has : (links : List Link) (j k : ℕ) (ns : List Node) (ps : List Package) (d : Dep) → ArePackagesFrom links j ns ps → Contains (package_deps (slice_get ps k)) d → Contains (deps_by (at_package (j + k)) links) d
package_has links _ k _ _ d (all_met j) c = absurd (none_in d c)
package_has links _ zero _ _ d (next j n ns p ps is rest) c =
    let z : j ≡ j + 0 = omega arith in
    subst (λ (i : ℕ). Contains (deps_by (at_package i) links) d) z (subst (λ (l : List Dep). Contains l d) is.deps c)
package_has links _ (suc k) _ _ d (next j n ns p ps is rest) c =
    let z : suc j + k ≡ j + suc k = omega arith in
    subst (λ (i : ℕ). Contains (deps_by (at_package i) links) d) z (package_has links (suc j) k ns ps d rest c)

has_package : (links : List Link) (j k : ℕ) (ns : List Node) (ps : List Package) (d : Dep) → ArePackagesFrom links j ns ps → k < length ns → Contains (deps_by (at_package (j + k)) links) d → Contains (package_deps (slice_get ps k)) d
has_package links _ k _ _ d (all_met j) lt c = absurd (omega arith)
has_package links _ zero _ _ d (next j n ns p ps is rest) lt c =
    let z : j + 0 ≡ j = omega arith in
    subst (λ (l : List Dep). Contains l d) (sym is.deps) (subst (λ (i : ℕ). Contains (deps_by (at_package i) links) d) z c)
has_package links _ (suc k) _ _ d (next j n ns p ps is rest) lt c =
    let z : j + suc k ≡ suc j + k = omega arith in
    has_package links (suc j) k ns ps d rest (omega arith) (subst (λ (i : ℕ). Contains (deps_by (at_package i) links) d) z c)

zero_plus : (q : ℕ) → 0 + q ≡ q
zero_plus q = omega arith

sound : (folders : List (List ℕ)) (t : State) (ps : List Project) (ks : List Package) (who : Place) (d : Dep) → IsShape folders t ps ks → Contains (deps_at ps ks (at_of who)) d → IsTaken t.links who d
sound folders t ps ks (at_project q) d h c =
    taken t.links (at_project q) d (subst (λ (i : ℕ). Contains (deps_by (at_project i) t.links) d) (zero_plus q)
    (project_has 0 q folders t.links d (subst (λ (l : List Project). Contains (project_deps (slice_get l q)) d) h.projects_are c)))
sound folders t ps ks (at_package k) d h c =
    taken t.links (at_package k) d (subst (λ (i : ℕ). Contains (deps_by (at_package i) t.links) d) (zero_plus k) (package_has t.links 0 k t.met ks d h.packages_are c))

complete : (folders : List (List ℕ)) (t : State) (ps : List Project) (ks : List Package) (who : Place) (d : Dep) → IsShape folders t ps ks → IsPlace (length folders) (length t.met) who → IsTaken t.links who d → Contains (deps_at ps ks (at_of who)) d
complete folders t ps ks (at_project q) d h lt is =
    subst (λ (l : List Project). Contains (project_deps (slice_get l q)) d) (sym h.projects_are)
    (has_project 0 q folders t.links d lt (subst (λ (i : ℕ). Contains (deps_by (at_project i) t.links) d) (sym (zero_plus q)) (given t.links (at_project q) d is)))
complete folders t ps ks (at_package k) d h lt is =
    has_package t.links 0 k t.met ks d h.packages_are lt (subst (λ (i : ℕ). Contains (deps_by (at_package i) t.links) d) (sym (zero_plus k)) (given t.links (at_package k) d is))

pub shape : ShapeLaw
shape = record {
  one_projects = λ folders t ps qs ks ns a b. a.projects_are ∙ sym b.projects_are;
  one_packages = λ folders t ps qs ks ns a b. one_list t.links 0 t.met ks ns a.packages_are b.packages_are;
  sound = λ folders t ps ks who d h c. sound folders t ps ks who d h c;
  complete = λ folders t ps ks who d h lt is. complete folders t ps ks who d h lt is;
}
