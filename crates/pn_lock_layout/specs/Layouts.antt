-- The layout of an install by a lock.
use Rattle.std.specs.Prelude.{ℕ, List, [], ◌∷◌, ◌++◌, Option, Some, None, get_or, map, codes, if◌then◌else◌}
use Rattle.std.specs.List.{flat_map}
use Rattle.pn_text.specs.Name.{modules}
use Rattle.pn_text.specs.Path.{Path, path_text, same_path}
use Rattle.pn_digest.specs.Listing.{Entry}
use Rattle.pn_deppath.specs.Folders.{folder_name}
use Rattle.pn_deppath.specs.Paths.{id_part}
use Rattle.pn_layout.specs.Layout.{marker_text}
use Rattle.pn_lock.specs.declared.goal.LockGoal.{LockGoal}
use Rattle.pn_lock.specs.declared.goal.LockGoal.TheVariants as goal
use Rattle.pn_lock.specs.declared.lists.LockDependency.{LockDependency}
use Rattle.pn_lock.specs.declared.lists.LockImporter.{LockImporter}
use Rattle.pn_lock.specs.declared.lists.LockLink.{LockLink}
use Rattle.pn_lock.specs.declared.lists.LockSnapshot.{LockSnapshot}
use Rattle.pn_lock.specs.Locks.{Locked, ids_of, paths_of, place_of}
use Rattle.pn_tree.specs.declared.instance.Instance.{Instance}
use Rattle.pn_tree.specs.declared.instance.Target.{Target}
use Rattle.pn_tree.specs.declared.instance.Top.{Top}
use Rattle.pn_tree.specs.Trees.{Managed, Layout, laid}
use Rattle.pn_lock_layout.specs.declared.hoist.Hoist.{Hoist}
use Rattle.pn_lock_layout.specs.Places.{default_store, folder_of, goal_folder, modules_of, name_of}

-- ---- managed folders

-- the marker of a virtual store that isn't the default one names the root
abbrev pub store_marker : Path → List ℕ
store_marker root = codes "pnpm-rs 1" ++ 32 ∷ (path_text root ++ 10 ∷ [])

abbrev pub store_managed : Path → Path → List Managed
store_managed root store = if same_path store (default_store root) then [] else (store, store_marker root) ∷ []

abbrev pub project_managed : Path → LockImporter → Managed
project_managed root i = (modules_of root i.folder, marker_text)

-- each project's `node_modules`, and the virtual store where it isn't the default one
abbrev pub managed_of : Path → Path → List LockImporter → List Managed
managed_of root store importers = map (project_managed root) importers ++ store_managed root store

-- ---- instances

abbrev pub listing_at : List (List Entry) → Option ℕ → List Entry
listing_at listings None = []
listing_at listings (Some n) = get_or listings n []

-- the files of a package: the listing at the place of its id
abbrev pub files_of : List (List ℕ) → List (List Entry) → List ℕ → List Entry
files_of ids listings id = listing_at listings (place_of id ids)

abbrev pub all_links : LockSnapshot → List LockLink
all_links s = s.dependencies ++ s.optional

-- Links lead where `lead` says.
abbrev pub target_of : (LockGoal → Path) → LockLink → Target
target_of lead k = record { name = k.alias; to = lead k.to }

abbrev pub instance_of : (LockGoal → Path) → Locked → List (List Entry) → LockSnapshot → Instance
instance_of lead l listings s = record {
  dir = folder_name (paths_of l.snapshots) s.path;
  name = name_of s.path;
  files = files_of (ids_of l.packages) listings (id_part s.path);
  links = map (target_of lead) (all_links s);
}

-- ---- links outside them

abbrev pub all_dependencies : LockImporter → List LockDependency
all_dependencies i = i.dependencies ++ (i.dev ++ i.optional)

abbrev pub top_of : (LockGoal → Path) → Path → LockDependency → Top
top_of lead folder d = record { holder = modules ∷ folder; name = d.alias; to = lead d.to }

abbrev pub project_tops : (LockGoal → Path) → Path → LockImporter → List Top
project_tops lead root i = map (top_of lead (folder_of root i.folder)) (all_dependencies i)

abbrev pub hoist_top : (LockGoal → Path) → Hoist → Top
hoist_top lead h = record { holder = h.holder; name = h.name; to = lead (goal.Snapshot h.to) }

abbrev pub tops_of : (LockGoal → Path) → Path → List LockImporter → List Hoist → List Top
tops_of lead root importers hoisted = flat_map (project_tops lead root) importers ++ map (hoist_top lead) hoisted

-- ---- the whole

abbrev pub layout_to : (LockGoal → Path) → Locked → Path → Path → List Hoist → List (List Entry) → Layout
layout_to lead l root store hoisted listings = laid store (managed_of root store l.importers) (map (instance_of lead l listings) l.snapshots) (tops_of lead root l.importers hoisted)

-- An instance for each snapshot, the links of the projects, and those of hoisting, each to what the lock says.
abbrev pub lock_layout : Locked → Path → Path → List Hoist → List (List Entry) → Layout
lock_layout l root store hoisted listings = layout_to (goal_folder l root store) l root store hoisted listings
