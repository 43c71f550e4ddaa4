-- The snapshots of a lock.
use Rattle.std.specs.Prelude.{ℕ, suc, ◌&&◌, not, Bool, List, [], ◌∷◌, map, Option, Some, None, bytes_eq, slice_get, slice_index_or}
use Rattle.std.specs.List.{filter, list_any}
use Rattle.pn_text.specs.declared.index.PkgIx.{PkgIx}
use Rattle.pn_lock.specs.declared.lists.LockLink.{LockLink}
use Rattle.pn_lock.specs.declared.lists.LockSnapshot.{LockSnapshot}
use Rattle.pn_graph.specs.declared.links.Dep.{Dep}
use Rattle.pn_graph.specs.declared.links.Package.{Package}
use Rattle.pn_graph.specs.Lookups.{package_deps}
use Rattle.pn_instances.specs.declared.links.Link.{Link}
use Rattle.pn_instances.specs.Lookups.{links_at}
use Rattle.pn_lock_make.specs.Targets.{lock_goal}

-- whether a name is an optional dependency
abbrev pub is_optional : List Dep → List ℕ → Bool
is_optional deps name = list_any (λ (d : Dep). d.optional && bytes_eq d.alias name) deps

abbrev pub link_of : List ℕ → Link → LockLink
link_of ranks l = record { alias = l.name; to = lock_goal ranks l.to }

-- the links that aren't optional dependencies, provided peers among them, and those that are
abbrev pub required_links : List ℕ → List Dep → List Link → List LockLink
required_links ranks deps links = map (link_of ranks) (filter (λ (l : Link). not (is_optional deps l.name)) links)

abbrev pub optional_links : List ℕ → List Dep → List Link → List LockLink
optional_links ranks deps links = map (link_of ranks) (filter (λ (l : Link). is_optional deps l.name) links)

abbrev pub snapshot_of : List ℕ → List Dep → List Link → List (List ℕ) → List ℕ → LockSnapshot
snapshot_of ranks deps links passed path =
    record { path = path; dependencies = required_links ranks deps links; optional = optional_links ranks deps links; transitive = passed }

abbrev pub number_of : Option PkgIx → ℕ
number_of None = 0
number_of (Some k) = k.0

-- the number of an instance's package
abbrev pub package_number : List PkgIx → ℕ → ℕ
package_number places n = number_of (slice_get places n)

abbrev pub snapshot_at : List Package → List PkgIx → List (List Link) → List ℕ → List (List (List ℕ)) → ℕ → List ℕ → LockSnapshot
snapshot_at packages places links ranks passed n path =
    snapshot_of ranks (package_deps (slice_get packages (package_number places n))) (links_at links n) (slice_index_or passed (package_number places n) []) path

-- the snapshots of the instances from a place on
abbrev pub snapshots_from : List Package → List PkgIx → List (List Link) → List ℕ → List (List (List ℕ)) → ℕ → List (List ℕ) → List LockSnapshot
snapshots_from packages places links ranks passed n [] = []
snapshots_from packages places links ranks passed n (path ∷ paths) =
    snapshot_at packages places links ranks passed n path ∷ snapshots_from packages places links ranks passed (suc n) paths
