-- Targets are looked up.
use Rattle.std.specs.Prelude.{ℕ, Bool, true, List, [], ◌∷◌, Option, Some, None, Result, Ok, Err, if◌then◌else◌}
use Rattle.pn_deppath.specs.Paths.{id_part}
use Rattle.pn_lock.specs.declared.goal.LockGoal.{LockGoal}
use Rattle.pn_lock.specs.declared.goal.LockGoal.TheVariants as goal
use Rattle.pn_lock.specs.declared.lists.LockDependency.{LockDependency}
use Rattle.pn_lock.specs.declared.lists.LockImporter.{LockImporter}
use Rattle.pn_lock.specs.declared.lists.LockLink.{LockLink}
use Rattle.pn_lock.specs.declared.lists.LockSnapshot.{LockSnapshot}
use Rattle.pn_lock.specs.Kept.{is_in}
use Rattle.pn_lock.specs.Locks.{Locked, locked, place_of, ids_of}
use Rattle.pn_lock_shape.specs.declared.drafts.Aim.{Aim}
use Rattle.pn_lock_shape.specs.declared.drafts.Aim.TheVariants as aim
use Rattle.pn_lock_shape.specs.declared.drafts.Draft.{Draft}
use Rattle.pn_lock_shape.specs.declared.drafts.DraftDependency.{DraftDependency}
use Rattle.pn_lock_shape.specs.declared.drafts.DraftImporter.{DraftImporter}
use Rattle.pn_lock_shape.specs.declared.drafts.DraftLink.{DraftLink}
use Rattle.pn_lock_shape.specs.declared.drafts.DraftSnapshot.{DraftSnapshot}
use Rattle.pn_lock_shape.specs.Kept.{folders_in, paths_in}
use Rattle.pn_lock_read.specs.declared.fault.LockFault.{LockFault}
use Rattle.pn_lock_read.specs.declared.fault.LockFault.TheVariants as fault

abbrev pub Settled : Type 0 → Type 0
Settled A = Result A LockFault

infixl 10 ◌then◌
abbrev pub ◌then◌ : {A B : Type 0} → Settled A → (A → Settled B) → Settled B
(Ok x) then f = f x
(Err e) then f = Err e

abbrev pub place_or : List ℕ → List ℕ → (ℕ → LockGoal) → Option ℕ → Settled LockGoal
place_or from to made None = Err (fault.Dangling from to)
place_or from to made (Some n) = Ok (made n)

-- the goal of a target, among the folders of projects and the dep paths of snapshots
abbrev pub goal_at : List (List ℕ) → List (List ℕ) → List ℕ → Aim → Settled LockGoal
goal_at folders paths from (aim.Folder None text) = Err (fault.Dangling from text)
goal_at folders paths from (aim.Folder (Some folder) text) = place_or from text goal.Importer (place_of folder folders)
goal_at folders paths from (aim.Path path) = place_or from path goal.Snapshot (place_of path paths)

abbrev pub then_on : {A : Type 0} → A → Settled (List A) → Settled (List A)
then_on x (Ok xs) = Ok (x ∷ xs)
then_on x (Err e) = Err e

-- one after the other, up to the first that fails
abbrev pub all_of : {A B : Type 0} → (A → Settled B) → List A → Settled (List B)
all_of f [] = Ok []
all_of f (x ∷ xs) = f x then λ y. then_on y (all_of f xs)

abbrev pub settled_dependency : List (List ℕ) → List (List ℕ) → List ℕ → DraftDependency → Settled LockDependency
settled_dependency folders paths from d = goal_at folders paths from d.aim then λ to. Ok (record { alias = d.alias; specifier = d.specifier; to = to })

abbrev pub settled_link : List (List ℕ) → List (List ℕ) → List ℕ → DraftLink → Settled LockLink
settled_link folders paths from l = goal_at folders paths from l.aim then λ to. Ok (record { alias = l.alias; to = to })

abbrev pub settled_importer : List (List ℕ) → List (List ℕ) → DraftImporter → Settled LockImporter
settled_importer folders paths i =
    all_of (settled_dependency folders paths i.folder) i.dependencies then λ ds.
    all_of (settled_dependency folders paths i.folder) i.dev then λ dev.
    all_of (settled_dependency folders paths i.folder) i.optional then λ opts.
    Ok (record { folder = i.folder; dependencies = ds; dev = dev; optional = opts })

-- a snapshot's id is among the packages
abbrev pub known : List (List ℕ) → List ℕ → Settled Bool
known ids path = if is_in ids (id_part path) then Ok true else Err (fault.Dangling path (id_part path))

abbrev pub settled_snapshot : List (List ℕ) → List (List ℕ) → List (List ℕ) → DraftSnapshot → Settled LockSnapshot
settled_snapshot folders ids paths s =
    known ids s.path then λ is.
    all_of (settled_link folders paths s.path) s.dependencies then λ ds.
    all_of (settled_link folders paths s.path) s.optional then λ opts.
    Ok (record { path = s.path; dependencies = ds; optional = opts; transitive = s.transitive })

-- the lock of a draft, or its first target that isn't there: projects come before snapshots
abbrev pub settled : Draft → Settled Locked
settled d =
    all_of (settled_importer (folders_in d.importers) (paths_in d.snapshots)) d.importers then λ importers.
    all_of (settled_snapshot (folders_in d.importers) (ids_of d.packages) (paths_in d.snapshots)) d.snapshots then λ snapshots.
    Ok (locked d.auto d.catalogs d.overrides importers d.packages snapshots)
