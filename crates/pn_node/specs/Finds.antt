-- What each folder of a build finds.
use Rattle.std.specs.Prelude.{◌≡◌, ◌≢◌, ◌⊎◌, ℕ, true, false, Bool, List, [], ◌∷◌, ◌++◌, Some}
use Rattle.std.specs.List.{Contains}
use Rattle.std.specs.Str.{bytes_eq}
use Rattle.pn_text.specs.Path.{Path}
use Rattle.pn_text.specs.Name.{is_name, name_path, modules}
use Rattle.pn_fs.specs.Tree.{folder, Tree, IsTree, IsFile}
use Rattle.pn_node.specs.Find.{real, find}
use Rattle.pn_node.specs.Plan.{Instance, TopLink, Plan, home, IsBuilt, IsSound}

-- Each link leads to a folder.
pub record LeadsToFolders (t : Tree) (plan : Plan) : Type 0 where
  pub links : (g : Instance) (x : List ℕ) (target : Path) → Contains plan.instances g → Contains g.links (x, target) → t target ≡ Some folder
  pub tops : (l : TopLink) → Contains plan.tops l → t l.target ≡ Some folder

-- From a folder of an instance's package: its own name finds it, a dependency's name finds what its
-- link leads to, and any other name what the virtual store's folder finds.
pub record Finds (t : Tree) (plan : Plan) (g : Instance) (from : Path) : Type 0 where
  pub own : find t from (name_path g.name) ≡ Some (home plan.store g)
  pub dependency : (x : List ℕ) (target : Path) → Contains g.links (x, target) → find t from (name_path x) ≡ Some target
  pub other : (x : List ℕ) → is_name x ≡ true → x ≢ g.name → ((target : Path) → Contains g.links (x, target) → ⊥) → find t from (name_path x) ≡ find t plan.store (name_path x)

-- The lookup from each folder at or below a package folder.
abbrev pub LookupLaw : Type 0
LookupLaw = (t : Tree) (plan : Plan) (g : Instance) (inner : Path) → IsTree t → IsBuilt t plan → IsSound plan → LeadsToFolders t plan → Contains plan.instances g
    → t (inner ++ home plan.store g) ≡ Some folder → Finds t plan g (inner ++ home plan.store g)

-- whether the last part is `node_modules`
abbrev pub ends_in_modules : Path → Bool
ends_in_modules [] = false
ends_in_modules (x ∷ p) = bytes_eq x modules

-- The lookup from a folder, other than a `node_modules`, whose `node_modules` holds a top link: a
-- project's, or the virtual store's.
abbrev pub TopLaw : Type 0
TopLaw = (t : Tree) (plan : Plan) (l : TopLink) (from : Path) → IsTree t → IsBuilt t plan → IsSound plan → LeadsToFolders t plan → Contains plan.tops l
    → l.holder ≡ modules ∷ from → ends_in_modules from ≡ false → find t from (name_path l.name) ≡ Some l.target

-- The package folder of each instance is a folder, so that links to instances lead to folders.
abbrev pub HomesLaw : Type 0
HomesLaw = (t : Tree) (plan : Plan) (g : Instance) → IsBuilt t plan → Contains plan.instances g → t (home plan.store g) ≡ Some folder

-- A folder is its own real path.
abbrev pub RealLaw : Type 0
RealLaw = (t : Tree) (p : Path) → IsTree t → t p ≡ Some folder → real t p ≡ Some p

-- A folder or a file that is its own real path.
pub record IsEnd (t : Tree) (q : Path) : Type 0 where
  pub stands : (t q ≡ Some folder) ⊎ IsFile t q
  pub own : real t q ≡ Some q

-- What is found as the real path of a path.
abbrev pub EndLaw : Type 0
EndLaw = (t : Tree) (p q : Path) → IsTree t → real t p ≡ Some q → IsEnd t q

-- A package that is found is a folder.
abbrev pub FoundLaw : Type 0
FoundLaw = (t : Tree) (from name q : Path) → find t from name ≡ Some q → t q ≡ Some folder
