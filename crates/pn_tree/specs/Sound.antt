-- What every layout of an install keeps.
use Rattle.std.specs.Prelude.{◌≡◌, ◌≢◌, ◌⊎◌, ℕ, true, false, List, ◌∷◌, map, IsTrue, codes}
use Rattle.std.specs.List.{Contains}
use Rattle.pn_text.specs.Path.{Path, is_part}
use Rattle.pn_text.specs.Name.{is_name, modules, holds_modules}
use Rattle.pn_digest.specs.Listing.{IsListing}
use Rattle.pn_node.specs.Plan.{marker_name}
use Rattle.pn_draft.specs.Drawing.{AreApart}
use Rattle.pn_tree.specs.declared.instance.Instance.{Instance}
use Rattle.pn_tree.specs.declared.instance.Target.{Target}
use Rattle.pn_tree.specs.declared.instance.Top.{Top}
use Rattle.pn_tree.specs.Trees.{Managed, Layout}

-- the paths of managed folders
abbrev pub folders : List Managed → List Path
folders managed = map (λ (m : Managed). m.0) managed

-- the virtual store is a managed folder, or `.pnpm` in one
abbrev pub IsStoreOf : Path → Path → Type 0
IsStoreOf store m = (store ≡ m) ⊎ (store ≡ codes ".pnpm" ∷ m)

-- An instance's folder has a name of its own, its files are a listing's, none in a `node_modules`, and its links have names,
-- each once, none of them the package's own.
pub record IsSoundInstance (g : Instance) : Type 0 where
  pub part : IsTrue (is_part g.dir)
  pub dir : g.dir ≢ modules
  pub unmarked : g.dir ≢ marker_name
  pub name : is_name g.name ≡ true
  pub files : IsListing g.files
  pub clean : (f : Path) (d : List ℕ) → Contains g.files (f, d) → holds_modules f ≡ false
  pub links : (k : Target) → Contains g.links k → is_name k.name ≡ true
  pub others : (k : Target) → Contains g.links k → k.name ≢ g.name
  pub once : (j k : Target) → Contains g.links j → Contains g.links k → j.name ≡ k.name → j ≡ k

-- A link outside the instances stands in a managed folder other than the virtual store, or in the virtual store's
-- `node_modules`.
pub record IsSoundTop (l : Layout) (t : Top) : Type 0 where
  pub name : is_name t.name ≡ true
  pub holder : (Contains (folders l.managed) t.holder × (t.holder ≢ l.store)) ⊎ (t.holder ≡ modules ∷ l.store)

pub record IsSoundLayout (l : Layout) : Type 0 where
  -- no managed folder is below another one, and each has one marker
  pub apart : AreApart (folders l.managed)
  pub marked : (m n : Managed) → Contains l.managed m → Contains l.managed n → m.0 ≡ n.0 → m ≡ n
  pub store : (m : Managed) × Contains l.managed m × IsStoreOf l.store m.0
  -- no two instances have one folder
  pub dirs : (g h : Instance) → Contains l.instances g → Contains l.instances h → g.dir ≡ h.dir → g ≡ h
  pub instances : (g : Instance) → Contains l.instances g → IsSoundInstance g
  pub tops : (t : Top) → Contains l.tops t → IsSoundTop l t
  -- no folder has two links of one name
  pub once : (s t : Top) → Contains l.tops s → Contains l.tops t → s.holder ≡ t.holder → s.name ≡ t.name → s ≡ t
