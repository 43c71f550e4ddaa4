-- The lock of a resolution.
use Rattle.std.specs.Prelude.{◌≡◌, ◌<◌, ℕ, ◌++◌, List, [], length, map, Some, bytes_eq, is_some, slice_get, slice_index_or, true, false}
use Rattle.std.specs.List.{AllByRecursion, IsDistinct}
use Rattle.std.specs.List.Sorted.{IsPermutation}
use Rattle.pn_text.specs.Ids.{id_name}
use Rattle.pn_text.specs.declared.index.PkgIx.{PkgIx}
use Rattle.pn_deppath.specs.Paths.{id_part, is_dep_path}
use Rattle.pn_lock.specs.declared.lists.Override.{Override}
use Rattle.pn_lock.specs.Folders.{is_folder}
use Rattle.pn_lock.specs.Kept.{NoneOf}
use Rattle.pn_lock.specs.Locks.{Locked, paths_of}
use Rattle.pn_asked.specs.declared.asked.AskedProject.{AskedProject}
use Rattle.pn_asked.specs.Asked.{AskedLists}
use Rattle.pn_asked.specs.Rows.{Row, keys}
use Rattle.pn_asked.specs.Spots.{asked_at, catalog_named, spot}
use Rattle.pn_graph.specs.declared.plain.Plain.{Plain}
use Rattle.pn_graph.specs.declared.links.Package.{Package}
use Rattle.pn_graph.specs.Lookups.{package_id}
use Rattle.pn_instances.specs.declared.instances.Instances.{Instances}
use Rattle.pn_instances.specs.declared.links.Link.{Link}
use Rattle.pn_instances.specs.Lookups.{goal_at, links_at}
use Rattle.pn_lock_make.specs.Entries.{entries_of, used_at, uses_of}
use Rattle.pn_lock_make.specs.Importers.{importers_from}
use Rattle.pn_lock_make.specs.Packages.{packages_from}
use Rattle.pn_lock_make.specs.PassedOn.{AreAllPassed}
use Rattle.pn_lock_make.specs.Snapshots.{package_number, snapshots_from}
use Rattle.pn_lock_make.specs.Targets.{ranks_of}

abbrev pub override_of : Row → Override
override_of r = record { selector = r.0; value = r.1 }

-- the id of an instance's package
abbrev pub instance_id : List Package → List PkgIx → ℕ → List ℕ
instance_id packages places n = package_id (slice_get packages (package_number places n))

-- no name stands in two of a project's lists
pub record IsApart (p : AskedProject) : Type 0 where
  pub dev : NoneOf (keys p.dependencies) (keys p.dev)
  pub optional : NoneOf (keys p.dependencies ++ keys p.dev) (keys p.optional)

-- A path of an instance: a dep path that begins with the id of its package. No link has the package's name.
pub record IsInstance (packages : List Package) (places : List PkgIx) (links : List (List Link)) (n : ℕ) (path : List ℕ) : Type 0 where
  pub in_graph : package_number places n < length packages
  pub path_is : is_dep_path path ≡ true
  pub begins : id_part path ≡ instance_id packages places n
  pub other : AllByRecursion (λ (l : Link). bytes_eq l.name (id_name (instance_id packages places n)) ≡ false) (links_at links n)

-- What a lock is made of belongs together: there is a dep path for each instance and an integrity for each package, no dep
-- path stands twice, and the projects are those of the instances.
pub record Belongs (a : AskedLists) (p : Plain) (i : Instances) (paths integrities : List (List ℕ)) : Type 0 where
  pub paths_count : length paths ≡ length i.packages
  pub paths_once : IsDistinct bytes_eq paths
  pub instances : (n : ℕ) → n < length paths → IsInstance p.packages i.packages i.links n (slice_index_or paths n [])
  pub integrities_count : length integrities ≡ length p.packages
  pub projects_count : length a.projects ≡ length i.roots
  pub folders : AllByRecursion (λ (q : AskedProject). is_folder q.folder ≡ true) a.projects
  pub apart : AllByRecursion IsApart a.projects

-- The snapshots are those of the instances, with the peers that their packages pass on.
pub record AreSnapshots (p : Plain) (i : Instances) (paths : List (List ℕ)) (l : Locked) : Type 0 where
  pub passed : List (List (List ℕ))
  pub passed_are : AreAllPassed p.packages passed
  pub all : IsPermutation (snapshots_from p.packages i.packages i.links (ranks_of (paths_of l.snapshots) paths) passed 0 paths) l.snapshots

-- The lock of what a run asks for, of a graph, its instances with their dep paths, and the integrities of its packages. The
-- order of its lists is that of every lock.
pub record IsMade (a : AskedLists) (p : Plain) (i : Instances) (paths integrities : List (List ℕ)) (l : Locked) : Type 0 where
  pub auto : l.auto ≡ a.auto
  pub catalogs : l.catalogs ≡ entries_of (uses_of p.projects p.packages) a.catalogs
  pub overrides : l.overrides ≡ map override_of a.overrides
  pub importers : l.importers ≡ importers_from (ranks_of (paths_of l.snapshots) paths) i.roots 0 a.projects
  pub packages : IsPermutation (packages_from integrities 0 p.packages) l.packages
  pub snapshots : AreSnapshots p i paths l

-- A row leads somewhere.
abbrev pub AreLed : List Link → List Row → Type 0
AreLed links rows = AllByRecursion (λ (r : Row). is_some (goal_at r.0 links) ≡ true) rows

-- Where a row leads somewhere, an entry that its specifier names is asked for, and a dependency on a package uses it.
abbrev pub AreEntered : AskedLists → Plain → List Link → List Row → Type 0
AreEntered a p links rows = AllByRecursion (λ (r : Row). is_some (goal_at r.0 links) ≡ true → (c : List ℕ) → catalog_named r.1 ≡ Some c
    → (is_some (used_at c r.0 (uses_of p.projects p.packages)) ≡ true) × (is_some (asked_at (spot c r.0) a.catalogs) ≡ true)) rows

-- What a project asks for was resolved; an optional dependency may lead nowhere.
pub record IsResolved (a : AskedLists) (p : Plain) (links : List Link) (q : AskedProject) : Type 0 where
  pub dependencies : AreLed links q.dependencies
  pub dev : AreLed links q.dev
  pub entries : AreEntered a p links (q.dependencies ++ (q.dev ++ q.optional))

-- the same of all projects, each with its links
abbrev pub AreResolved : AskedLists → Plain → List (List Link) → Type 0
AreResolved a p roots = (n : ℕ) (q : AskedProject) → slice_get a.projects n ≡ Some q → IsResolved a p (links_at roots n) q
