-- The dependencies of each node, as edges are gone through.
use Rattle.std.specs.Prelude.{◌≡◌, ℕ, suc, List, [], ◌∷◌, length}
use Rattle.pn_graph.specs.declared.links.Dep.{Dep}
use Rattle.pn_graph.specs.declared.links.Package.{Package}
use Rattle.pn_graph.specs.declared.links.Project.{Project}
use Rattle.pn_walk.specs.declared.node.Node.{Node}
use Rattle.pn_walk.specs.declared.wish.Place.{Place}
use Rattle.pn_walk.specs.declared.wish.Place.TheVariants.{Project as at_project, Package as at_package}
use Rattle.pn_walk.specs.Walks.{Link}
use Rattle.pn_shape.specs.Shapes.{deps_by, ArePeersOf}
use Rattle.pn_shape.specs.declared.lists.DepLists.{DepLists}

-- each list has the dependencies of its node, from this place on
abbrev pub AreDepsFrom : (ℕ → Place) → ℕ → List Link → List (List Dep) → Type 0
AreDepsFrom at k links [] = Unit {0}
AreDepsFrom at k links (ds ∷ rest) = (ds ≡ deps_by (at k) links) × AreDepsFrom at (suc k) links rest

-- There are so many lists, each with its node's dependencies.
pub record AreDeps (at : ℕ → Place) (count : ℕ) (links : List Link) (lists : List (List Dep)) : Type 0 where
  pub long : length lists ≡ count
  pub each : AreDepsFrom at 0 links lists

-- The lists of projects and of packages.
pub record HasDeps (of_projects of_packages : ℕ) (links : List Link) (lists : DepLists) : Type 0 where
  pub projects_have : AreDeps at_project of_projects links lists.projects.items
  pub packages_have : AreDeps at_package of_packages links lists.packages.items

-- each folder with its list
abbrev pub projects_with : List (List ℕ) → List (List Dep) → List Project
projects_with [] lists = []
projects_with (f ∷ fs) [] = []
projects_with (f ∷ fs) (ds ∷ rest) = record { folder = f; deps = ds; autos = [] } ∷ projects_with fs rest

-- The package with its list.
pub record IsPackageWith (deps : List Dep) (n : Node) (p : Package) : Type 0 where
  pub id : p.id ≡ n.id
  pub has : p.deps ≡ deps
  pub peers : ArePeersOf n.peers p.peers

-- each package with its list
pub data ArePackagesWith : List Node → List (List Dep) → List Package → Type 0 where
  all_with : ArePackagesWith [] [] []
  next_with : (n : Node) (ns : List Node) (ds : List Dep) (rest : List (List Dep)) (p : Package) (ps : List Package)
      → IsPackageWith ds n p → ArePackagesWith ns rest ps → ArePackagesWith (n ∷ ns) (ds ∷ rest) (p ∷ ps)
