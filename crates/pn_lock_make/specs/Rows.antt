-- A small resolution, computed: the root depends on z by a catalog, z on b and, optionally, on c, and b is a peer of c.
use Rattle.std.specs.Prelude.{◌≡◌, ℕ, Bool, List, [], ◌∷◌, true, false, codes, refl}
use Rattle.pn_text.specs.declared.index.PkgIx.{PkgIx}
use Rattle.pn_spec.specs.declared.entry.CatalogEntry.{CatalogEntry}
use Rattle.pn_spec.specs.declared.spec.Spec.TheVariants as spec
use Rattle.pn_lock.specs.declared.goal.LockGoal.TheVariants as goal
use Rattle.pn_lock.specs.declared.lists.LockImporter.{LockImporter}
use Rattle.pn_lock.specs.declared.lists.LockLink.{LockLink}
use Rattle.pn_lock.specs.declared.lists.LockPackage.{LockPackage}
use Rattle.pn_asked.specs.declared.asked.AskedProject.{AskedProject}
use Rattle.pn_graph.specs.declared.links.At.TheVariants.{Package as at_package}
use Rattle.pn_graph.specs.declared.links.Dep.{Dep}
use Rattle.pn_graph.specs.declared.links.Package.{Package}
use Rattle.pn_graph.specs.declared.links.Project.{Project}
use Rattle.pn_graph.specs.declared.peer.Peer.{Peer}
use Rattle.pn_instances.specs.declared.goal.Goal.TheVariants.{Inst as to_inst}
use Rattle.pn_instances.specs.declared.links.Link.{Link}
use Rattle.pn_lock_make.specs.Entries.{entries_of, uses_of}
use Rattle.pn_lock_make.specs.Importers.{importers_from}
use Rattle.pn_lock_make.specs.Packages.{packages_from}
use Rattle.pn_lock_make.specs.Snapshots.{snapshots_from}
use Rattle.pn_lock_make.specs.Targets.{ranks_of}

-- ---- the graph

abbrev pub dep : List ℕ → List ℕ → ℕ → Bool → Dep
dep alias specifier k optional = record { alias = alias; specifier = specifier; to = at_package (record { 0 = k }); optional = optional }

abbrev pub root : Project
root = record { folder = codes "."; deps = dep (codes "z") (codes "catalog:") 0 false ∷ []; autos = [] }

abbrev pub peer : Peer
peer = record { name = codes "b"; range = []; text = codes "^1"; optional = true }

abbrev pub packages : List Package
packages =
    record { id = codes "z@1.0.0"; deps = dep (codes "b") (codes "1") 1 false ∷ dep (codes "c") (codes "1") 2 true ∷ []; peers = [] }
    ∷ record { id = codes "b@1.0.0"; deps = []; peers = [] }
    ∷ record { id = codes "c@1.0.0"; deps = []; peers = peer ∷ [] }
    ∷ []

-- ---- its instances, one of each package

abbrev pub link : List ℕ → ℕ → Link
link name n = record { name = name; to = to_inst (record { 0 = n }) }

abbrev pub places : List PkgIx
places = record { 0 = 0 } ∷ record { 0 = 1 } ∷ record { 0 = 2 } ∷ []

abbrev pub links : List (List Link)
links = (link (codes "b") 1 ∷ link (codes "c") 2 ∷ []) ∷ [] ∷ (link (codes "b") 1 ∷ []) ∷ []

abbrev pub paths : List (List ℕ)
paths = codes "z@1.0.0" ∷ codes "b@1.0.0" ∷ codes "c@1.0.0(b@1.0.0)" ∷ []

-- ---- what is asked

abbrev pub asked_entry : CatalogEntry
asked_entry = record { catalog = codes "default"; name = codes "z"; text = codes "latest"; spec = spec.Tag (codes "latest") }

abbrev pub unused_entry : CatalogEntry
unused_entry = record { catalog = codes "default"; name = codes "b"; text = codes "latest"; spec = spec.Tag (codes "latest") }

abbrev pub asked_project : AskedProject
asked_project = record { folder = codes "."; dependencies = []; dev = (codes "z", codes "catalog:") ∷ []; optional = (codes "gone", codes "1") ∷ [] }

-- ---- the lists of its lock

abbrev pub ranks : List ℕ
ranks = 2 ∷ 0 ∷ 1 ∷ []

pub ranked : ranks_of (codes "b@1.0.0" ∷ codes "c@1.0.0(b@1.0.0)" ∷ codes "z@1.0.0" ∷ []) paths ≡ ranks
ranked = refl

-- the optional dependency that wasn't found isn't there
abbrev pub importer : LockImporter
importer = record {
  folder = codes ".";
  dependencies = [];
  dev = record { alias = codes "z"; specifier = codes "catalog:"; to = goal.Snapshot 2 } ∷ [];
  optional = [];
}

pub importers : importers_from ranks ((link (codes "z") 0 ∷ []) ∷ []) 0 (asked_project ∷ []) ≡ importer ∷ []
importers = refl

abbrev pub locked : List ℕ → LockPackage
locked id = record { id = id; integrity = []; peers = []; optional_peers = [] }

pub made_packages : packages_from ([] ∷ [] ∷ [] ∷ []) 0 packages ≡ locked (codes "z@1.0.0") ∷ locked (codes "b@1.0.0")
    ∷ record { id = codes "c@1.0.0"; integrity = []; peers = record { name = codes "b"; range = codes "^1" } ∷ []; optional_peers = codes "b" ∷ [] } ∷ []
made_packages = refl

abbrev pub to : List ℕ → ℕ → LockLink
to alias n = record { alias = alias; to = goal.Snapshot n }

-- an optional dependency is apart, a provided peer is among the dependencies
pub snapshots : snapshots_from packages places links ranks ([] ∷ [] ∷ [] ∷ []) 0 paths
    ≡ record { path = codes "z@1.0.0"; dependencies = to (codes "b") 0 ∷ []; optional = to (codes "c") 1 ∷ []; transitive = [] }
    ∷ record { path = codes "b@1.0.0"; dependencies = []; optional = []; transitive = [] }
    ∷ record { path = codes "c@1.0.0(b@1.0.0)"; dependencies = to (codes "b") 0 ∷ []; optional = []; transitive = [] } ∷ []
snapshots = refl

-- an entry that isn't used is left out
pub entries : entries_of (uses_of (root ∷ []) packages) (unused_entry ∷ asked_entry ∷ [])
    ≡ record { catalog = codes "default"; name = codes "z"; specifier = codes "latest"; version = codes "1.0.0" } ∷ []
entries = refl

-- ---- a resolution without peers: the root depends on z, z on b

abbrev pub two_root : Project
two_root = record { folder = codes "."; deps = dep (codes "z") (codes "1") 0 false ∷ []; autos = [] }

abbrev pub bare : List ℕ → List Dep → Package
bare id deps = record { id = id; deps = deps; peers = [] }

abbrev pub two_packages : List Package
two_packages = bare (codes "z@1.0.0") (dep (codes "b") (codes "1") 1 false ∷ []) ∷ bare (codes "b@1.0.0") [] ∷ []

abbrev pub two_project : AskedProject
two_project = record { folder = codes "."; dependencies = (codes "z", codes "1") ∷ []; dev = []; optional = [] }
