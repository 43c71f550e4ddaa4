-- What a tree is that has a planned tree.
use Rattle.std.specs.Prelude.{◌≡◌, ◌≢◌, ◌⊎◌, ◌↔◌, ℕ, true, false, List, ◌∷◌, ◌++◌, Some}
use Rattle.std.specs.List.{Contains}
use Rattle.pn_text.specs.Path.{Path}
use Rattle.pn_text.specs.Name.{is_name, name_path, modules}
use Rattle.pn_fs.specs.Tree.{Entry, folder, Tree, IsTree}
use Rattle.pn_digest.specs.declared.planned.Planned.{Planned}
use Rattle.pn_node.specs.Find.{find}
use Rattle.pn_node.specs.Finds.{ends_in_modules}
use Rattle.pn_node.specs.Plan.{IsBuilt, IsSound}
use Rattle.pn_repair.specs.Stands.{StandsAs}
use Rattle.pn_tree.specs.declared.instance.Instance.{Instance}
use Rattle.pn_tree.specs.declared.instance.Target.{Target}
use Rattle.pn_tree.specs.declared.instance.Top.{Top}
use Rattle.pn_tree.specs.Trees.{Managed, Layout, IsEntry, home, build_of}
use Rattle.pn_tree.specs.Sound.{IsSoundLayout}

-- The build of a sound layout is one in which lookups are settled.
abbrev pub SoundLaw : Type 0
SoundLaw = (u : Tree) (l : Layout) → IsSoundLayout l → IsSound (build_of u l)

-- what is planned is what the layout says
abbrev pub AreEntries : Layout → List (Path × Planned) → Type 0
AreEntries l plan = (q : Path) (w : Planned) → Contains plan (q, w) ↔ IsEntry l q w

-- A tree has what is planned, and nothing else at and below the managed folders.
pub record HasPlan (managed : List Managed) (plan : List (Path × Planned)) (u : Tree) : Type 0 where
  pub planned : (e : Path × Planned) → Contains plan e → StandsAs e.1 (u e.0)
  pub only : (m : Managed) (r : Path) (e : Entry) → Contains managed m → u (r ++ m.0) ≡ Some e → (w : Planned) × Contains plan (r ++ m.0, w)

abbrev pub BuiltLaw : Type 0
BuiltLaw = (l : Layout) (plan : List (Path × Planned)) (u : Tree) → AreEntries l plan → HasPlan l.managed plan u → IsBuilt u (build_of u l)

-- Each link leads to a package folder of the layout, or to another folder of the tree.
pub record AreWhole (u : Tree) (l : Layout) : Type 0 where
  pub links : (g : Instance) (k : Target) → Contains l.instances g → Contains g.links k → ((h : Instance) × Contains l.instances h × (k.to ≡ home l.store h)) ⊎ (u k.to ≡ Some folder)
  pub tops : (t : Top) → Contains l.tops t → ((h : Instance) × Contains l.instances h × (t.to ≡ home l.store h)) ⊎ (u t.to ≡ Some folder)

-- What a folder of an instance's package finds.
pub record FindsOwn (u : Tree) (l : Layout) (g : Instance) (from : Path) : Type 0 where
  -- its own name finds its package folder
  pub own : find u from (name_path g.name) ≡ Some (home l.store g)
  -- the name of a link finds what it leads to
  pub dependency : (k : Target) → Contains g.links k → find u from (name_path k.name) ≡ Some k.to
  -- any other package name finds what the virtual store's folder finds
  pub other : (x : List ℕ) → is_name x ≡ true → x ≢ g.name → ((k : Target) → Contains g.links k → k.name ≢ x) → find u from (name_path x) ≡ find u l.store (name_path x)

-- What the folders of an install find: each folder at or below a package folder, and each folder other than a `node_modules`
-- whose own one has links.
pub record FindsAll (u : Tree) (l : Layout) : Type 0 where
  pub inside : (g : Instance) (inner : Path) → Contains l.instances g → u (inner ++ home l.store g) ≡ Some folder → FindsOwn u l g (inner ++ home l.store g)
  pub tops : (t : Top) (place : Path) → Contains l.tops t → t.holder ≡ modules ∷ place → ends_in_modules place ≡ false → find u place (name_path t.name) ≡ Some t.to

abbrev pub FindsLaw : Type 0
FindsLaw = (u : Tree) (l : Layout) → IsTree u → IsSound (build_of u l) → AreWhole u l → IsBuilt u (build_of u l) → FindsAll u l
