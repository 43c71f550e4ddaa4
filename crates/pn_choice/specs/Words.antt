-- The plain graph of a registry whose tree is told, in the words of wishes.
use Rattle.std.specs.Prelude.{◌≡◌, ◌≤◌, List, length, Option, Some}
use Rattle.std.specs.List.{Contains}
use Rattle.pn_text.specs.declared.index.ProjIx.{ProjIx}
use Rattle.pn_text.specs.declared.limits.TheConstants.{ID_LIMIT}
use Rattle.pn_fs.specs.Tree.{Tree, IsTree, folder}
use Rattle.pn_registry.specs.Places.{package_folder}
use Rattle.pn_graph.specs.declared.links.Package.{Package}
use Rattle.pn_graph.specs.declared.plain.Plain.{Plain}
use Rattle.pn_walk.specs.Walks.{Turn}
use Rattle.pn_walk.specs.declared.wish.Aim.{Aim}
use Rattle.pn_walk.specs.declared.wish.Wish.{Wish}
use Rattle.pn_plain.specs.Plains.{Inputs}
use Rattle.pn_shape.specs.Words.{IsInWords}
use Rattle.pn_choice.specs.Graphs.{IsGraphOf}
use Rattle.pn_choice.specs.Shows.{LeadsIn, IsNodeOf, AreStartsOf}

-- A wish leads to one aim. Each package that the projects reach is in the graph with what its wishes lead to, and each
-- project has what its own lead to.
pub record HasWords (t : Tree) (i : Inputs) (p : Plain) : Type 0 where
  pub one : (w : Wish) (a b : Option Aim) → LeadsIn (Some t) i w a → LeadsIn (Some t) i w b → a ≡ b
  pub all : (own : List Turn) → AreStartsOf i own → IsInWords (LeadsIn (Some t) i) (IsNodeOf (Some t)) own p.projects p.packages

abbrev pub WordsLaw : Type 0
WordsLaw = (t : Tree) (i : Inputs) (root : ProjIx) (p : Plain) → IsGraphOf (Some t) i root p → HasWords t i p

-- Each package of the graph is a folder of the registry.
abbrev pub FoldersLaw : Type 0
FoldersLaw = (t : Tree) (i : Inputs) (root : ProjIx) (p : Plain) → IsTree t → IsGraphOf (Some t) i root p → (q : Package) → Contains p.packages q → t (package_folder q.id) ≡ Some folder

-- No id of a package of the graph has more than 120 bytes.
abbrev pub ShortLaw : Type 0
ShortLaw = (r : Option Tree) (i : Inputs) (root : ProjIx) (p : Plain) → IsGraphOf r i root p → (q : Package) → Contains p.packages q → length q.id ≤ ID_LIMIT
