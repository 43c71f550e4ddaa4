-- Where a lock's projects, the virtual store and hoisted links may lie, and what listings are for.
use Rattle.std.specs.Prelude.{◌≡◌, ◌≢◌, ◌≤◌, ◌<◌, ◌⊎◌, ℕ, List, ◌∷◌, ◌++◌, codes, false, length, true}
use Rattle.std.specs.List.{Contains}
use Rattle.pn_text.specs.declared.limits.TheConstants.{PATH_LIMIT}
use Rattle.pn_text.specs.Name.{holds_modules, is_name, modules}
use Rattle.pn_text.specs.Path.{Path, path_text, tail_of}
use Rattle.pn_digest.specs.Listing.{Entry, IsListing}
use Rattle.pn_lock.specs.declared.lists.LockDependency.{LockDependency}
use Rattle.pn_lock.specs.declared.lists.LockImporter.{LockImporter}
use Rattle.pn_lock.specs.Locks.{Locked}
use Rattle.pn_lock_layout.specs.declared.hoist.Hoist.{Hoist}
use Rattle.pn_lock_layout.specs.Places.{default_store, folder_of, modules_of}
use Rattle.pn_lock_layout.specs.Layouts.{all_dependencies}

-- A hoisted link leads to a snapshot, and stands in the virtual store's `node_modules` or a project's, where no dependency of
-- the project has its name.
pub record IsHoist (l : Locked) (root store : Path) (h : Hoist) : Type 0 where
  pub name : is_name h.name ≡ true
  pub range : h.to < length l.snapshots
  pub holder : (h.holder ≡ modules ∷ store) ⊎ ((i : LockImporter) × Contains l.importers i × (h.holder ≡ modules_of root i.folder))
  pub free : (i : LockImporter) (d : LockDependency) → Contains l.importers i → Contains (all_dependencies i) d → h.holder ≡ modules_of root i.folder → h.name ≢ d.alias

-- the path of no project's `node_modules` is too long
abbrev pub HaveShort : Path → List LockImporter → Type 0
HaveShort root importers = (i : LockImporter) → Contains importers i → length (path_text (modules_of root i.folder)) ≤ PATH_LIMIT

pub record IsPlaced (l : Locked) (root store : Path) (hoisted : List Hoist) : Type 0 where
  -- no part of a project's folder is a `node_modules`, and the path of its own one is not too long
  pub clean : (i : LockImporter) → Contains l.importers i → holds_modules (tail_of i.folder) ≡ false
  pub short : HaveShort root l.importers
  -- the virtual store has another name than `node_modules`, is neither a project's folder nor above one, and lies in a
  -- project's `node_modules` only as the default one, where the root is a project
  pub named : (q : Path) → store ≢ modules ∷ q
  pub apart : (i : LockImporter) (s : Path) → Contains l.importers i → folder_of root i.folder ≢ s ++ store
  pub inside : (i : LockImporter) (s : Path) → Contains l.importers i → store ≡ s ++ modules_of root i.folder → store ≡ default_store root
  pub rooted : store ≡ default_store root → (i : LockImporter) × Contains l.importers i × (i.folder ≡ codes ".")
  -- no folder has two hoisted links of one name
  pub hoists : (h : Hoist) → Contains hoisted h → IsHoist l root store h
  pub once : (g h : Hoist) → Contains hoisted g → Contains hoisted h → g.holder ≡ h.holder → g.name ≡ h.name → g ≡ h

-- A listing has no file in a `node_modules`.
pub record IsCleanListing (es : List Entry) : Type 0 where
  pub listing : IsListing es
  pub clean : (f : Path) (d : List ℕ) → Contains es (f, d) → holds_modules f ≡ false

-- A listing for each package of the lock, in their order.
pub record AreListings (l : Locked) (listings : List (List Entry)) : Type 0 where
  pub count : length listings ≡ length l.packages
  pub each : (es : List Entry) → Contains listings es → IsCleanListing es
