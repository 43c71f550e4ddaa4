-- A small workspace, computed: the root depends on a, and on the project b for development; b depends on c; a has the peer c
-- and links b where that can be installed.
use Rattle.std.specs.Prelude.{◌≡◌, ℕ, List, [], ◌∷◌, true, codes, refl, replicate}
use Rattle.pn_text.specs.Path.{Path}
use Rattle.pn_digest.specs.Listing.{Entry}
use Rattle.pn_layout.specs.Layout.{marker_text}
use Rattle.pn_lock.specs.declared.goal.LockGoal.{LockGoal}
use Rattle.pn_lock.specs.declared.goal.LockGoal.TheVariants as goal
use Rattle.pn_lock.specs.declared.lists.LockDependency.{LockDependency}
use Rattle.pn_lock.specs.declared.lists.LockImporter.{LockImporter}
use Rattle.pn_lock.specs.declared.lists.LockLink.{LockLink}
use Rattle.pn_lock.specs.declared.lists.LockPackage.{LockPackage}
use Rattle.pn_lock.specs.declared.lists.LockSnapshot.{LockSnapshot}
use Rattle.pn_lock.specs.Locks.{Locked, locked}
use Rattle.pn_deppath.specs.Folders.{fitted, plain_name}
use Rattle.pn_tree.specs.declared.instance.Instance.{Instance}
use Rattle.pn_tree.specs.declared.instance.Target.{Target}
use Rattle.pn_tree.specs.declared.instance.Top.{Top}
use Rattle.pn_tree.specs.Trees.{laid}
use Rattle.pn_lock_layout.specs.Places.{default_store}
use Rattle.pn_lock_layout.specs.Layouts.{lock_layout}

-- ---- the lock

abbrev pub dependency : List ℕ → LockGoal → LockDependency
dependency alias to = record { alias = alias; specifier = codes "1"; to = to }

abbrev pub project : List ℕ → List LockDependency → List LockDependency → LockImporter
project folder dependencies dev = record { folder = folder; dependencies = dependencies; dev = dev; optional = [] }

abbrev pub held : List ℕ → LockPackage
held id = record { id = id; integrity = replicate 64 7; peers = []; optional_peers = [] }

abbrev pub link : List ℕ → LockGoal → LockLink
link alias to = record { alias = alias; to = to }

abbrev pub snapshot : List ℕ → List LockLink → List LockLink → LockSnapshot
snapshot path dependencies optional = record { path = path; dependencies = dependencies; optional = optional; transitive = [] }

abbrev pub root_project : LockImporter
root_project = project (codes ".") (dependency (codes "a") (goal.Snapshot 0) ∷ []) (dependency (codes "b") (goal.Importer 1) ∷ [])

abbrev pub other_project : LockImporter
other_project = project (codes "packages/b") (dependency (codes "c") (goal.Snapshot 1) ∷ []) []

abbrev pub importers : List LockImporter
importers = root_project ∷ other_project ∷ []

abbrev pub packages : List LockPackage
packages = held (codes "a@1.0.0") ∷ held (codes "c@1.0.0") ∷ []

abbrev pub first_snapshot : LockSnapshot
first_snapshot = snapshot (codes "a@1.0.0(c@1.0.0)") (link (codes "c") (goal.Snapshot 1) ∷ []) (link (codes "b") (goal.Importer 1) ∷ [])

abbrev pub second_snapshot : LockSnapshot
second_snapshot = snapshot (codes "c@1.0.0") [] []

abbrev pub snapshots : List LockSnapshot
snapshots = first_snapshot ∷ second_snapshot ∷ []

abbrev pub lock : Locked
lock = locked true [] [] importers packages snapshots

-- ---- its layout

abbrev pub file : List ℕ → List Entry
file name = (name ∷ [], replicate 64 7) ∷ []

abbrev pub listings : List (List Entry)
listings = file (codes "x.js") ∷ file (codes "y.js") ∷ []

abbrev pub w : Path
w = codes "w" ∷ []

abbrev pub b : Path
b = codes "b" ∷ codes "packages" ∷ codes "w" ∷ []

abbrev pub target : List ℕ → Path → Target
target name to = record { name = name; to = to }

abbrev pub top : Path → List ℕ → Path → Top
top holder name to = record { holder = holder; name = name; to = to }

abbrev pub home_a : Path → Path
home_a store = codes "a" ∷ codes "node_modules" ∷ codes "a@1.0.0_c@1.0.0" ∷ store

abbrev pub home_c : Path → Path
home_c store = codes "c" ∷ codes "node_modules" ∷ codes "c@1.0.0" ∷ store

abbrev pub instances : Path → List Instance
instances store =
    record { dir = codes "a@1.0.0_c@1.0.0"; name = codes "a"; files = file (codes "x.js"); links = target (codes "c") (home_c store) ∷ target (codes "b") b ∷ [] }
    ∷ record { dir = codes "c@1.0.0"; name = codes "c"; files = file (codes "y.js"); links = [] } ∷ []

abbrev pub tops : Path → List Top
tops store =
    top (codes "node_modules" ∷ w) (codes "a") (home_a store)
    ∷ top (codes "node_modules" ∷ w) (codes "b") b
    ∷ top (codes "node_modules" ∷ b) (codes "c") (home_c store) ∷ []

-- with the default virtual store
pub default_row : lock_layout lock w (default_store w) [] listings
    ≡ laid (default_store w) ((codes "node_modules" ∷ w, marker_text) ∷ (codes "node_modules" ∷ b, marker_text) ∷ []) (instances (default_store w)) (tops (default_store w))
unfolding plain_name fitted
default_row = refl

-- with one at /v
pub other_row : lock_layout lock w (codes "v" ∷ []) [] listings
    ≡ laid (codes "v" ∷ [])
    ((codes "node_modules" ∷ w, marker_text) ∷ (codes "node_modules" ∷ b, marker_text) ∷ (codes "v" ∷ [], codes "pnpm-rs 1 /w\n") ∷ []) (instances (codes "v" ∷ [])) (tops (codes "v" ∷ []))
unfolding plain_name fitted
other_row = refl
