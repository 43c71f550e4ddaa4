-- A workspace, computed: three projects, two entries of a catalog, a link to a project, and a package with a peer.
use Rattle.std.specs.Prelude.{◌≡◌, ℕ, List, [], ◌∷◌, false, codes, refl}
use Rattle.pn_text.specs.declared.index.PkgIx.{PkgIx}
use Rattle.pn_spec.specs.declared.entry.CatalogEntry.{CatalogEntry}
use Rattle.pn_spec.specs.declared.spec.Spec.TheVariants as spec
use Rattle.pn_lock.specs.declared.goal.LockGoal.{LockGoal}
use Rattle.pn_lock.specs.declared.goal.LockGoal.TheVariants as goal
use Rattle.pn_lock.specs.declared.lists.LockCatalog.{LockCatalog}
use Rattle.pn_lock.specs.declared.lists.LockDependency.{LockDependency}
use Rattle.pn_lock.specs.declared.lists.LockLink.{LockLink}
use Rattle.pn_lock.specs.declared.lists.LockSnapshot.{LockSnapshot}
use Rattle.pn_asked.specs.declared.asked.AskedProject.{AskedProject}
use Rattle.pn_graph.specs.declared.links.At.TheVariants.{Project as at_project}
use Rattle.pn_graph.specs.declared.links.Dep.{Dep}
use Rattle.pn_graph.specs.declared.links.Package.{Package}
use Rattle.pn_graph.specs.declared.links.Project.{Project}
use Rattle.pn_graph.specs.declared.peer.Peer.{Peer}
use Rattle.pn_instances.specs.declared.goal.Goal.TheVariants.{Project as to_project}
use Rattle.pn_instances.specs.declared.links.Link.{Link}
use Rattle.pn_lock_make.specs.Entries.{entries_of, uses_of}
use Rattle.pn_lock_make.specs.Importers.{importers_from}
use Rattle.pn_lock_make.specs.Packages.{package_of}
use Rattle.pn_lock_make.specs.Rows.{dep, link, to}
use Rattle.pn_lock_make.specs.Snapshots.{snapshots_from}
use Rattle.pn_lock_make.specs.Targets.{ranks_of}

-- ---- the graph, in the order in which packages are met

abbrev pub ui : Dep
ui = record { alias = codes "@acme/ui"; specifier = codes "workspace:^"; to = at_project (record { 0 = 2 }); optional = false }

abbrev pub projects : List Project
projects =
    record { folder = codes "."; deps = dep (codes "typescript") (codes "^5.4.0") 0 false ∷ []; autos = [] }
    ∷ record { folder = codes "packages/app"; deps = ui ∷ dep (codes "react") (codes "catalog:") 1 false ∷ dep (codes "react-dom") (codes "catalog:") 2 false ∷ []; autos = [] }
    ∷ record { folder = codes "packages/ui"; deps = dep (codes "react") (codes "catalog:") 1 false ∷ []; autos = [] }
    ∷ []

abbrev pub on_loose_envify : Dep
on_loose_envify = dep (codes "loose-envify") (codes "^1.1.0") 3 false

abbrev pub on_react : Peer
on_react = record { name = codes "react"; range = []; text = codes "^18.3.1"; optional = false }

abbrev pub react_dom : Package
react_dom = record { id = codes "react-dom@18.3.1"; deps = on_loose_envify ∷ dep (codes "scheduler") (codes "^0.23.2") 4 false ∷ []; peers = on_react ∷ [] }

abbrev pub packages : List Package
packages =
    record { id = codes "typescript@5.4.5"; deps = []; peers = [] }
    ∷ record { id = codes "react@18.3.1"; deps = on_loose_envify ∷ []; peers = [] }
    ∷ react_dom
    ∷ record { id = codes "loose-envify@1.4.0"; deps = dep (codes "js-tokens") (codes "^3.0.0 || ^4.0.0") 5 false ∷ []; peers = [] }
    ∷ record { id = codes "scheduler@0.23.2"; deps = on_loose_envify ∷ []; peers = [] }
    ∷ record { id = codes "js-tokens@4.0.0"; deps = []; peers = [] }
    ∷ []

-- ---- its instances

abbrev pub places : List PkgIx
places = record { 0 = 0 } ∷ record { 0 = 1 } ∷ record { 0 = 2 } ∷ record { 0 = 3 } ∷ record { 0 = 4 } ∷ record { 0 = 5 } ∷ []

-- the peer is among the links of the package that has it
abbrev pub links : List (List Link)
links =
    [] ∷ (link (codes "loose-envify") 3 ∷ []) ∷ (link (codes "loose-envify") 3 ∷ link (codes "react") 1 ∷ link (codes "scheduler") 4 ∷ [])
    ∷ (link (codes "js-tokens") 5 ∷ []) ∷ (link (codes "loose-envify") 3 ∷ []) ∷ [] ∷ []

abbrev pub roots : List (List Link)
roots =
    (link (codes "typescript") 0 ∷ [])
    ∷ (record { name = codes "@acme/ui"; to = to_project (record { 0 = 2 }) } ∷ link (codes "react") 1 ∷ link (codes "react-dom") 2 ∷ [])
    ∷ (link (codes "react") 1 ∷ []) ∷ []

abbrev pub paths : List (List ℕ)
paths =
    codes "typescript@5.4.5" ∷ codes "react@18.3.1" ∷ codes "react-dom@18.3.1(react@18.3.1)" ∷ codes "loose-envify@1.4.0" ∷ codes "scheduler@0.23.2" ∷ codes "js-tokens@4.0.0" ∷ []

abbrev pub sorted_paths : List (List ℕ)
sorted_paths =
    codes "js-tokens@4.0.0" ∷ codes "loose-envify@1.4.0" ∷ codes "react-dom@18.3.1(react@18.3.1)" ∷ codes "react@18.3.1" ∷ codes "scheduler@0.23.2" ∷ codes "typescript@5.4.5" ∷ []

-- ---- what is asked

abbrev pub asked_projects : List AskedProject
asked_projects =
    record { folder = codes "."; dependencies = []; dev = (codes "typescript", codes "^5.4.0") ∷ []; optional = [] }
    ∷ record {
      folder = codes "packages/app";
      dependencies = (codes "@acme/ui", codes "workspace:^") ∷ (codes "react", codes "catalog:") ∷ (codes "react-dom", codes "catalog:") ∷ [];
      dev = [];
      optional = [];
    }
    ∷ record { folder = codes "packages/ui"; dependencies = []; dev = (codes "react", codes "catalog:") ∷ []; optional = [] }
    ∷ []

abbrev pub asked_entry : List ℕ → CatalogEntry
asked_entry name = record { catalog = codes "default"; name = name; text = codes "^18.2.0"; spec = spec.Tag (codes "x") }

-- ---- its lock

abbrev pub ranks : List ℕ
ranks = 5 ∷ 3 ∷ 2 ∷ 1 ∷ 4 ∷ 0 ∷ []

pub ranked : ranks_of sorted_paths paths ≡ ranks
ranked = refl

abbrev pub entry : List ℕ → LockCatalog
entry name = record { catalog = codes "default"; name = name; specifier = codes "^18.2.0"; version = codes "18.3.1" }

pub entries : entries_of (uses_of projects packages) (asked_entry (codes "react") ∷ asked_entry (codes "react-dom") ∷ []) ≡ entry (codes "react") ∷ entry (codes "react-dom") ∷ []
entries = refl

abbrev pub locked : List ℕ → List ℕ → LockGoal → LockDependency
locked alias specifier leads = record { alias = alias; specifier = specifier; to = leads }

pub importers : importers_from ranks roots 0 asked_projects
    ≡ record { folder = codes "."; dependencies = []; dev = locked (codes "typescript") (codes "^5.4.0") (goal.Snapshot 5) ∷ []; optional = [] }
    ∷ record {
      folder = codes "packages/app";
      dependencies = locked (codes "@acme/ui") (codes "workspace:^") (goal.Importer 2) ∷ locked (codes "react") (codes "catalog:") (goal.Snapshot 3)
          ∷ locked (codes "react-dom") (codes "catalog:") (goal.Snapshot 2) ∷ [];
      dev = [];
      optional = [];
    }
    ∷ record { folder = codes "packages/ui"; dependencies = []; dev = locked (codes "react") (codes "catalog:") (goal.Snapshot 3) ∷ []; optional = [] }
    ∷ []
importers = refl

abbrev pub snapshot : List ℕ → List LockLink → LockSnapshot
snapshot path dependencies = record { path = path; dependencies = dependencies; optional = []; transitive = [] }

pub snapshots : snapshots_from packages places links ranks ([] ∷ [] ∷ [] ∷ [] ∷ [] ∷ [] ∷ []) 0 paths
    ≡ snapshot (codes "typescript@5.4.5") []
    ∷ snapshot (codes "react@18.3.1") (to (codes "loose-envify") 1 ∷ [])
    ∷ snapshot (codes "react-dom@18.3.1(react@18.3.1)") (to (codes "loose-envify") 1 ∷ to (codes "react") 3 ∷ to (codes "scheduler") 4 ∷ [])
    ∷ snapshot (codes "loose-envify@1.4.0") (to (codes "js-tokens") 0 ∷ [])
    ∷ snapshot (codes "scheduler@0.23.2") (to (codes "loose-envify") 1 ∷ [])
    ∷ snapshot (codes "js-tokens@4.0.0") []
    ∷ []
snapshots = refl

pub react_dom_locked : package_of react_dom [] ≡ record { id = codes "react-dom@18.3.1"; integrity = []; peers = record { name = codes "react"; range = codes "^18.3.1" } ∷ []; optional_peers = [] }
react_dom_locked = refl
