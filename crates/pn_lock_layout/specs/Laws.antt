-- What is known of the layout of a lock.
use Rattle.std.specs.Prelude.{◌≡◌, ◌≢◌, ◌≤◌, ℕ, true, false, List, [], ◌∷◌, ◌++◌, Some, None, codes, length}
use Rattle.std.specs.List.{Contains}
use Rattle.pn_text.specs.declared.limits.TheConstants.{PATH_LIMIT}
use Rattle.pn_text.specs.Path.{Path, path_text}
use Rattle.pn_text.specs.Name.{is_name, modules, name_path}
use Rattle.pn_fs.specs.Tree.{folder, Tree, IsTree}
use Rattle.pn_digest.specs.Listing.{Entry}
use Rattle.pn_digest.specs.declared.planned.Planned.{Planned}
use Rattle.pn_digest.specs.declared.planned.Planned.TheVariants.{Stored}
use Rattle.pn_deppath.specs.Paths.{id_part}
use Rattle.pn_lock.specs.declared.goal.LockGoal.{LockGoal}
use Rattle.pn_lock.specs.declared.goal.LockGoal.TheVariants as goal
use Rattle.pn_lock.specs.declared.lists.LockImporter.{LockImporter}
use Rattle.pn_lock.specs.declared.lists.LockSnapshot.{LockSnapshot}
use Rattle.pn_lock.specs.Kept.{IsLock}
use Rattle.pn_lock.specs.Links.{importer_goal, snapshot_goal}
use Rattle.pn_lock.specs.Locks.{Locked, ids_of, paths_of}
use Rattle.pn_node.specs.Find.{find}
use Rattle.pn_node.specs.Finds.{ends_in_modules}
use Rattle.pn_repair.specs.Stands.{StandsAs}
use Rattle.pn_tree.specs.Laws.{AreEntries, HasPlan}
use Rattle.pn_lock_layout.specs.declared.hoist.Hoist.{Hoist}
use Rattle.pn_lock_layout.specs.Places.{default_store, folder_of, goal_folder, home_of, name_of}
use Rattle.pn_lock_layout.specs.Layouts.{files_of, lock_layout, managed_of}
use Rattle.pn_lock_layout.specs.Placed.{AreListings, IsPlaced}

-- The tree has the plan of a lock, and nothing else at and below the managed folders.
pub record IsInstalled (u : Tree) (l : Locked) (root store : Path) (hoisted : List Hoist) (listings : List (List Entry)) : Type 0 where
  pub plan : List (Path × Planned)
  pub entries : AreEntries (lock_layout l root store hoisted listings) plan
  pub has : HasPlan (managed_of root store l.importers) plan u

-- What a folder of a snapshot's package finds.
pub record FindsOwn (u : Tree) (l : Locked) (root store : Path) (s : LockSnapshot) (from : Path) : Type 0 where
  -- its own name finds its package folder
  pub own : find u from (name_path (name_of s.path)) ≡ Some (home_of (paths_of l.snapshots) store s.path)
  -- the name of a link finds what the lock says
  pub link : (x : List ℕ) (to : LockGoal) → snapshot_goal x s ≡ Some to → find u from (name_path x) ≡ Some (goal_folder l root store to)
  -- any other package name finds what the virtual store's folder finds
  pub other : (x : List ℕ) → is_name x ≡ true → x ≢ name_of s.path → snapshot_goal x s ≡ None → find u from (name_path x) ≡ find u store (name_path x)

-- What the folders of an install find: each folder at or below a package folder, each project's folder, and the folders whose
-- `node_modules` has hoisted links; the latter two where they are no `node_modules` themselves.
pub record FindsAll (u : Tree) (l : Locked) (root store : Path) (hoisted : List Hoist) : Type 0 where
  pub inside : (s : LockSnapshot) (inner : Path) → Contains l.snapshots s → u (inner ++ home_of (paths_of l.snapshots) store s.path) ≡ Some folder
      → FindsOwn u l root store s (inner ++ home_of (paths_of l.snapshots) store s.path)
  pub project : (i : LockImporter) (x : List ℕ) (to : LockGoal) → Contains l.importers i → ends_in_modules (folder_of root i.folder) ≡ false → importer_goal x i ≡ Some to
      → find u (folder_of root i.folder) (name_path x) ≡ Some (goal_folder l root store to)
  pub hoist : (h : Hoist) (place : Path) → Contains hoisted h → h.holder ≡ modules ∷ place → ends_in_modules place ≡ false → find u place (name_path h.name) ≡ Some (goal_folder l root store (goal.Snapshot h.to))

-- In an installed tree each package finds itself and what the lock links it to, and so does each project.
abbrev pub FindsLaw : Type 0
FindsLaw = (u : Tree) (l : Locked) (root store : Path) (hoisted : List Hoist) (listings : List (List Entry)) → IsTree u → IsLock l → IsPlaced l root store hoisted → AreListings l listings
    → IsInstalled u l root store hoisted listings → FindsAll u l root store hoisted

-- In an installed tree each listed file stands below the package folder of each snapshot of its package, with bytes of that
-- SHA-512.
abbrev pub HeldLaw : Type 0
HeldLaw = (u : Tree) (l : Locked) (root store : Path) (hoisted : List Hoist) (listings : List (List Entry)) → IsInstalled u l root store hoisted listings
    → (s : LockSnapshot) (f : Path) (d : List ℕ) → Contains l.snapshots s → Contains (files_of (ids_of l.packages) listings (id_part s.path)) (f, d)
    → StandsAs (Stored d) (u (f ++ home_of (paths_of l.snapshots) store s.path))

-- A root that is the only project, with the default virtual store and nothing hoisted, is placed where the path of its
-- `node_modules` is not too long.
abbrev pub PlacedLaw : Type 0
PlacedLaw = (l : Locked) (root : Path) → ((i : LockImporter) → Contains l.importers i → i.folder ≡ codes ".") → ((i : LockImporter) × Contains l.importers i)
    → length (path_text (modules ∷ root)) ≤ PATH_LIMIT → IsPlaced l root (default_store root) []
