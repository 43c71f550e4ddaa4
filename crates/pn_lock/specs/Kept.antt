-- What each lock keeps.
use Rattle.std.specs.Prelude.{◌≡◌, ◌<◌, ◌^◌, ℕ, ◌++◌, Bool, true, false, List, length, map, bytes_eq}
use Rattle.std.specs.List.{AllByRecursion, list_any}
use Rattle.std.specs.List.Sorted.{IsStrictlySortedBy}
use Rattle.std.specs.Cmp.Lexicographic.{slice_cmp}
use Rattle.std.specs.Ordering.{nat_cmp}
use Rattle.pn_digest.specs.Digests.{IsDigest}
use Rattle.pn_text.specs.Name.{is_name}
use Rattle.pn_text.specs.Ids.{id_name, is_id}
use Rattle.pn_deppath.specs.Paths.{id_part, is_dep_path}
use Rattle.pn_lock.specs.declared.lists.LockCatalog.{LockCatalog}
use Rattle.pn_lock.specs.declared.lists.LockDependency.{LockDependency}
use Rattle.pn_lock.specs.declared.goal.LockGoal.{LockGoal}
use Rattle.pn_lock.specs.declared.goal.LockGoal.TheVariants as goal
use Rattle.pn_lock.specs.declared.lists.LockImporter.{LockImporter}
use Rattle.pn_lock.specs.declared.lists.LockLink.{LockLink}
use Rattle.pn_lock.specs.declared.lists.LockPackage.{LockPackage}
use Rattle.pn_lock.specs.declared.lists.LockPeer.{LockPeer}
use Rattle.pn_lock.specs.declared.lists.LockSnapshot.{LockSnapshot}
use Rattle.pn_lock.specs.declared.lists.Override.{Override}
use Rattle.pn_lock.specs.Locks.{Locked, Group, groups_of, folders_of, ids_of, paths_of, aliases_of, links_of}
use Rattle.pn_lock.specs.Folders.{is_folder}

-- byte order, no key twice
abbrev pub Rises : List (List ℕ) → Type 0
Rises keys = IsStrictlySortedBy (slice_cmp nat_cmp) keys

-- whether a key is among keys
abbrev pub is_in : List (List ℕ) → List ℕ → Bool
is_in keys key = list_any (λ k. bytes_eq k key) keys

-- a target is there
abbrev pub InRange : Locked → LockGoal → Type 0
InRange l (goal.Importer n) = n < length l.importers
InRange l (goal.Snapshot n) = n < length l.snapshots

-- no name of these is among those
abbrev pub NoneOf : List (List ℕ) → List (List ℕ) → Type 0
NoneOf those these = AllByRecursion (λ k. is_in those k ≡ false) these

pub record IsDependency (l : Locked) (d : LockDependency) : Type 0 where
  pub name : is_name d.alias ≡ true
  pub range : InRange l d.to

pub record IsImporter (l : Locked) (i : LockImporter) : Type 0 where
  pub folder : is_folder i.folder ≡ true
  pub dependencies : AllByRecursion (IsDependency l) i.dependencies
  pub dev : AllByRecursion (IsDependency l) i.dev
  pub optional : AllByRecursion (IsDependency l) i.optional
  pub dependencies_rise : Rises (aliases_of i.dependencies)
  pub dev_rise : Rises (aliases_of i.dev)
  pub optional_rise : Rises (aliases_of i.optional)
  pub dev_apart : NoneOf (aliases_of i.dependencies) (aliases_of i.dev)
  pub optional_apart : NoneOf (aliases_of i.dependencies ++ aliases_of i.dev) (aliases_of i.optional)

pub record IsPackage (p : LockPackage) : Type 0 where
  pub id : is_id p.id ≡ true
  pub integrity : IsDigest p.integrity
  pub peers : AllByRecursion (λ (q : LockPeer). is_name q.name ≡ true) p.peers
  pub optional : AllByRecursion (λ (k : List ℕ). is_name k ≡ true) p.optional_peers
  pub peers_rise : Rises (map (λ (q : LockPeer). q.name) p.peers)
  pub optional_rise : Rises p.optional_peers

pub record IsLink (l : Locked) (own : List ℕ) (k : LockLink) : Type 0 where
  pub name : is_name k.alias ≡ true
  pub range : InRange l k.to
  pub other : bytes_eq k.alias own ≡ false

pub record IsSnapshot (l : Locked) (s : LockSnapshot) : Type 0 where
  pub path : is_dep_path s.path ≡ true
  pub locked : is_in (ids_of l.packages) (id_part s.path) ≡ true
  pub dependencies : AllByRecursion (IsLink l (id_name (id_part s.path))) s.dependencies
  pub optional : AllByRecursion (IsLink l (id_name (id_part s.path))) s.optional
  pub transitive : AllByRecursion (λ (k : List ℕ). is_name k ≡ true) s.transitive
  pub dependencies_rise : Rises (links_of s.dependencies)
  pub optional_rise : Rises (links_of s.optional)
  pub transitive_rise : Rises s.transitive
  pub optional_apart : NoneOf (links_of s.dependencies) (links_of s.optional)

pub record IsLock (l : Locked) : Type 0 where
  pub importers : AllByRecursion (IsImporter l) l.importers
  pub packages : AllByRecursion IsPackage l.packages
  pub snapshots : AllByRecursion (IsSnapshot l) l.snapshots
  pub catalogs : AllByRecursion (λ (e : LockCatalog). is_name e.name ≡ true) l.catalogs
  pub catalogs_rise : Rises (map (λ (g : Group). g.0) (groups_of l.catalogs))
  pub entries_rise : AllByRecursion (λ (g : Group). Rises (map (λ (e : LockCatalog). e.name) g.1)) (groups_of l.catalogs)
  pub overrides_rise : Rises (map (λ (o : Override). o.selector) l.overrides)
  pub importers_rise : Rises (folders_of l.importers)
  pub packages_rise : Rises (ids_of l.packages)
  pub snapshots_rise : Rises (paths_of l.snapshots)
  pub importers_few : length l.importers < 2 ^ 32
  pub snapshots_few : length l.snapshots < 2 ^ 32
