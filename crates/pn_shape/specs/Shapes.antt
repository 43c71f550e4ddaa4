-- The plain graph of a walk's end: each project and package with the edges that it asked for and that lead somewhere.
use Rattle.std.specs.Prelude.{◌≡◌, ℕ, suc, List, [], ◌∷◌, ◌++◌, filter, Option, Some, None}
use Rattle.pn_manifest.specs.declared.peers.Peer.{Peer as SaidPeer}
use Rattle.pn_walk.specs.declared.node.Node.{Node}
use Rattle.pn_walk.specs.declared.wish.Place.{Place}
use Rattle.pn_walk.specs.declared.wish.Place.TheVariants.{Project as at_project, Package as at_package}
use Rattle.pn_walk.specs.Walks.{Turn, Link, State, same_place}
use Rattle.pn_graph.specs.declared.links.At.TheVariants.{Project as to_project, Package as to_package}
use Rattle.pn_graph.specs.PeerRanges.{IsPeerRange}
use Rattle.pn_graph.specs.declared.links.At.{At}
use Rattle.pn_graph.specs.declared.links.Dep.{Dep}
use Rattle.pn_graph.specs.declared.links.Package.{Package}
use Rattle.pn_graph.specs.declared.links.Project.{Project}
use Rattle.pn_graph.specs.declared.peer.Peer.{Peer}

abbrev pub at_of : Place → At
at_of (at_project q) = to_project (record { 0 = q })
at_of (at_package k) = to_package (record { 0 = k })

-- An edge that leads nowhere is no dependency.
abbrev pub dep_to : Turn → Option Place → List Dep
dep_to e None = []
dep_to e (Some p) = record { alias = e.wish.alias; specifier = e.wish.specifier; to = at_of p; optional = e.wish.optional } ∷ []

abbrev pub deps_in : List Link → List Dep
deps_in [] = []
deps_in (l ∷ ls) = dep_to l.turn l.to ++ deps_in ls

-- the edges of one node, in order
abbrev pub links_by : Place → List Link → List Link
links_by who links = filter (λ (l : Link). same_place l.turn.who who) links

abbrev pub deps_by : Place → List Link → List Dep
deps_by who links = deps_in (links_by who links)

-- the projects from this place on
abbrev pub projects_from : ℕ → List (List ℕ) → List Link → List Project
projects_from q [] links = []
projects_from q (f ∷ fs) links = record { folder = f; deps = deps_by (at_project q) links; autos = [] } ∷ projects_from (suc q) fs links

-- A peer as the manifest names it, with the versions that it takes.
pub record IsPeerOf (s : SaidPeer) (p : Peer) : Type 0 where
  pub name : p.name ≡ s.name
  pub text : p.text ≡ s.text
  pub optional : p.optional ≡ s.optional
  pub range : IsPeerRange s.text p.range

pub data ArePeersOf : List SaidPeer → List Peer → Type 0 where
  no_more : ArePeersOf [] []
  one_more : (s : SaidPeer) (ss : List SaidPeer) (p : Peer) (ps : List Peer) → IsPeerOf s p → ArePeersOf ss ps → ArePeersOf (s ∷ ss) (p ∷ ps)

-- The package that was met at a place.
pub record IsPackageOf (links : List Link) (k : ℕ) (n : Node) (p : Package) : Type 0 where
  pub id : p.id ≡ n.id
  pub deps : p.deps ≡ deps_by (at_package k) links
  pub peers : ArePeersOf n.peers p.peers

-- the packages from this place on
pub data ArePackagesFrom (links : List Link) : ℕ → List Node → List Package → Type 0 where
  all_met : (k : ℕ) → ArePackagesFrom links k [] []
  next : (k : ℕ) (n : Node) (ns : List Node) (p : Package) (ps : List Package) → IsPackageOf links k n p → ArePackagesFrom links (suc k) ns ps → ArePackagesFrom links k (n ∷ ns) (p ∷ ps)

pub record IsShape (folders : List (List ℕ)) (t : State) (projects : List Project) (packages : List Package) : Type 0 where
  pub projects_are : projects ≡ projects_from 0 folders t.links
  pub packages_are : ArePackagesFrom t.links 0 t.met packages
