-- A small lock, computed: the project depends on b, and on a for development; a links b.
use Rattle.std.specs.Prelude.{◌≡◌, ℕ, Bool, List, [], ◌∷◌, map, true, false, codes, refl, replicate}
use Rattle.std.specs.List.{filter}
use Rattle.pn_lock.specs.declared.goal.LockGoal.TheVariants as goal
use Rattle.pn_lock.specs.declared.lists.LockDependency.{LockDependency}
use Rattle.pn_lock.specs.declared.lists.LockImporter.{LockImporter}
use Rattle.pn_lock.specs.declared.lists.LockLink.{LockLink}
use Rattle.pn_lock.specs.declared.lists.LockPackage.{LockPackage}
use Rattle.pn_lock.specs.declared.lists.LockSnapshot.{LockSnapshot}
use Rattle.pn_lock.specs.Locks.{Locked, locked}
use Rattle.pn_lock_prod.specs.Kept.{new_importer, new_snapshots, numbers_from, stays}
use Rattle.pn_lock_prod.specs.Targets.{dev_targets, kept_targets, places_without}

abbrev pub dependency : List ℕ → ℕ → LockDependency
dependency alias n = record { alias = alias; specifier = codes "1"; to = goal.Snapshot n }

abbrev pub project : List LockDependency → List LockDependency → LockImporter
project dependencies dev = record { folder = codes "."; dependencies = dependencies; dev = dev; optional = [] }

abbrev pub held : List ℕ → LockPackage
held id = record { id = id; integrity = replicate 64 7; peers = []; optional_peers = [] }

abbrev pub link : List ℕ → ℕ → LockLink
link alias n = record { alias = alias; to = goal.Snapshot n }

abbrev pub snapshot : List ℕ → List LockLink → LockSnapshot
snapshot path links = record { path = path; dependencies = links; optional = []; transitive = [] }

abbrev pub importers : List LockImporter
importers = project (dependency (codes "b") 1 ∷ []) (dependency (codes "a") 0 ∷ []) ∷ []

abbrev pub packages : List LockPackage
packages = held (codes "a@1.0.0") ∷ held (codes "b@1.0.0") ∷ []

abbrev pub snapshots : List LockSnapshot
snapshots = snapshot (codes "a@1.0.0") (link (codes "b") 1 ∷ []) ∷ snapshot (codes "b@1.0.0") [] ∷ []

abbrev pub lock : Locked
lock = locked true [] [] importers packages snapshots

-- ---- what stays

pub dev : dev_targets importers ≡ 0 ∷ []
dev = refl

pub kept : kept_targets importers ≡ 1 ∷ []
kept = refl

pub others : places_without 0 (true ∷ false ∷ true ∷ false ∷ []) ≡ 1 ∷ 3 ∷ []
others = refl

abbrev pub marks : List Bool
marks = false ∷ true ∷ []

pub numbers : numbers_from 0 (true ∷ false ∷ true ∷ true ∷ []) ≡ 0 ∷ 1 ∷ 1 ∷ 2 ∷ []
numbers = refl

pub new_importers_are : map (new_importer (numbers_from 0 marks)) importers ≡ project (dependency (codes "b") 0 ∷ []) [] ∷ []
new_importers_are = refl

pub new_packages_are : filter (stays marks snapshots) (packages) ≡ held (codes "b@1.0.0") ∷ []
new_packages_are = refl

-- a package without snapshots stays
pub without_snapshots : stays marks snapshots (held (codes "c@1.0.0")) ≡ true
without_snapshots = refl

pub new_snapshots_are : new_snapshots (numbers_from 0 marks) marks snapshots ≡ snapshot (codes "b@1.0.0") [] ∷ []
new_snapshots_are = refl
