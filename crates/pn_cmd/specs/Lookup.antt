-- What the folders of an installed project find.
use Rattle.std.specs.Prelude.{◌≡◌, ◌≢◌, ◌++◌, ℕ, List, Option, Some, None, true, false}
use Rattle.std.specs.List.{Contains}
use Rattle.pn_text.specs.Path.{Path}
use Rattle.pn_text.specs.Ids.{id_name}
use Rattle.pn_text.specs.Name.{is_name, name_path}
use Rattle.pn_fs.specs.Tree.{folder, Tree}
use Rattle.pn_node.specs.Find.{find}
use Rattle.pn_node.specs.Finds.{ends_in_modules}
use Rattle.pn_manifest.specs.Said.{Said}
use Rattle.pn_walk.specs.Graphs.{Reaches}
use Rattle.pn_walk.specs.Walks.{Turn}
use Rattle.pn_walk.specs.Wants.{Id}
use Rattle.pn_walk.specs.declared.node.Node.{Node}
use Rattle.pn_walk.specs.declared.wish.Aim.{Aim}
use Rattle.pn_walk.specs.declared.wish.Aim.TheVariants.{Package as to_package}
use Rattle.pn_walk.specs.declared.wish.Wish.{Wish}
use Rattle.pn_choice.specs.Shows.{LeadsIn, IsNodeOf, AreStartsOf}
use Rattle.pn_shape.specs.Words.{wishes_at}
use Rattle.pn_layout.specs.Store.{store_of, home_of}
use Rattle.pn_cmd.specs.Names.{modules_path}
use Rattle.pn_cmd.specs.Graph.{inputs_of}

-- the package folder of a package
abbrev pub package_home : Path → Id → Path
package_home place id = home_of (modules_path place) id

-- what a wish leads to, by what the registry r publishes and the project says
abbrev pub leads : Tree → Said → Wish → Option Aim → Type 0
leads r said = LeadsIn (Some r) (inputs_of said)

-- From this folder the package's own name finds its package folder; the alias of a dependency that leads to a package finds
-- that one's; and any other package name, that of a dependency that leads nowhere too, finds what the virtual store's folder
-- finds.
pub record FindsFrom (r u : Tree) (place : Path) (said : Said) (n : Node) (from : Path) : Type 0 where
  pub own : find u from (name_path (id_name n.id)) ≡ Some (package_home place n.id)
  pub dependency : (w : Wish) (i : Id) → Contains n.wishes w → leads r said w (Some (to_package i)) → find u from (name_path w.alias) ≡ Some (package_home place i)
  pub other : (x : List ℕ) → is_name x ≡ true → x ≢ id_name n.id → ((w : Wish) → Contains n.wishes w → w.alias ≡ x → leads r said w None)
      → find u from (name_path x) ≡ find u (store_of (modules_path place)) (name_path x)

-- Of each package of the registry r that the project reaches, by its seen manifest, each folder at or below its package folder
-- finds so. So does the project's folder find what its dependencies lead to, unless it is itself named `node_modules`, since
-- the lookup passes over such a folder.
pub record LooksUp (r u : Tree) (place : Path) (said : Said) : Type 0 where
  pub inside : (own : List Turn) (n : Node) (inner : Path) → AreStartsOf (inputs_of said) own → Reaches (leads r said) (IsNodeOf (Some r)) own n.id → IsNodeOf (Some r) n → u (inner ++ package_home place n.id) ≡ Some folder
      → FindsFrom r u place said n (inner ++ package_home place n.id)
  pub project : ends_in_modules place ≡ false → (own : List Turn) (w : Wish) (i : Id) → AreStartsOf (inputs_of said) own → Contains (wishes_at 0 own) w → leads r said w (Some (to_package i))
      → find u place (name_path w.alias) ≡ Some (package_home place i)
