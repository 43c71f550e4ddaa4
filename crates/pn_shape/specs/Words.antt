-- A plain graph in the words of wishes: a dependency is there exactly where a wish leads to its package.
use Rattle.std.specs.Prelude.{◌≡◌, ℕ, List, map, Option, Some, slice_get}
use Rattle.std.specs.List.{Contains}
use Rattle.pn_text.specs.declared.index.PkgIx.{PkgIx}
use Rattle.pn_graph.specs.declared.links.At.TheVariants.{Package as at_place}
use Rattle.pn_graph.specs.declared.links.Dep.{Dep}
use Rattle.pn_graph.specs.declared.links.Package.{Package}
use Rattle.pn_graph.specs.declared.links.Project.{Project}
use Rattle.pn_walk.specs.Graphs.{Reaches}
use Rattle.pn_walk.specs.Walks.{Turn, asked_by}
use Rattle.pn_walk.specs.Wants.{Id}
use Rattle.pn_walk.specs.declared.wish.Place.TheVariants.{Project as at_project}
use Rattle.pn_walk.specs.declared.node.Node.{Node}
use Rattle.pn_walk.specs.declared.wish.Aim.{Aim}
use Rattle.pn_walk.specs.declared.wish.Aim.TheVariants.{Package as to_package}
use Rattle.pn_walk.specs.declared.wish.Wish.{Wish}

-- A dependency under the alias leads to the package of this id.
pub record LeadsTo (packages : List Package) (deps : List Dep) (alias : List ℕ) (i : Id) : Type 0 where
  pub dep : Dep
  pub has : Contains deps dep
  pub called : dep.alias ≡ alias
  pub place : PkgIx
  pub to : dep.to ≡ at_place place
  pub found : Package
  pub there : slice_get packages place.0 ≡ Some found
  pub id : found.id ≡ i

-- The dependencies on packages are what these wishes lead to.
pub record AreLinks (leads : Wish → Option Aim → Type 0) (packages : List Package) (wishes : List Wish) (deps : List Dep) : Type 0 where
  pub from : (w : Wish) (i : Id) → Contains wishes w → leads w (Some (to_package i)) → LeadsTo packages deps w.alias i
  pub to : (alias : List ℕ) (i : Id) → LeadsTo packages deps alias i → (w : Wish) × Contains wishes w × (w.alias ≡ alias) × leads w (Some (to_package i))

-- The graph has the package, with what its wishes lead to.
pub record HasNode (leads : Wish → Option Aim → Type 0) (packages : List Package) (n : Node) : Type 0 where
  pub found : Package
  pub has : Contains packages found
  pub id : found.id ≡ n.id
  pub links : AreLinks leads packages n.wishes found.deps

-- what a project asks for
abbrev pub wishes_at : ℕ → List Turn → List Wish
wishes_at q own = map (λ (e : Turn). e.wish) (asked_by (at_project q) own)

-- Each package that is reached is in the graph with what its wishes lead to, and each project has what its own lead to.
pub record IsInWords (leads : Wish → Option Aim → Type 0) (node : Node → Type 0) (own : List Turn) (projects : List Project) (packages : List Package) : Type 0 where
  pub package_has : (n : Node) → Reaches leads node own n.id → node n → HasNode leads packages n
  pub project_has : (q : ℕ) (p : Project) → slice_get projects q ≡ Some p → AreLinks leads packages (wishes_at q own) p.deps
