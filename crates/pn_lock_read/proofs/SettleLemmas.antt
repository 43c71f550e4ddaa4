-- Targets are found where they stand.
use Rattle.std.proofs.Common.{◌≡◌, ℕ, ◌<◌, true, cond, List, [], ◌∷◌, map, refl, sym, ap, ◌∙◌, subst}
use Rattle.std.specs.Prelude.{Ok, Err, codes}
use Rattle.std.specs.List.{AllByRecursion}
use Rattle.std.proofs.lemmas.List.{length-map}
use Rattle.pn_text.specs.Ids.{id_name}
use Rattle.pn_deppath.specs.Paths.{id_part}
use Rattle.pn_lock_shape.specs.declared.drafts.DraftImporter.{DraftImporter}
use Rattle.pn_lock_shape.specs.declared.drafts.DraftSnapshot.{DraftSnapshot}
use Rattle.pn_lock_read.specs.declared.fault.LockFault.TheVariants as fault
use Rattle.pn_lock.specs.declared.lists.LockDependency.{LockDependency}
use Rattle.pn_lock.specs.declared.goal.LockGoal.{LockGoal}
use Rattle.pn_lock.specs.declared.goal.LockGoal.TheVariants as goal
use Rattle.pn_lock.specs.declared.lists.LockImporter.{LockImporter}
use Rattle.pn_lock.specs.declared.lists.LockLink.{LockLink}
use Rattle.pn_lock.specs.declared.lists.LockSnapshot.{LockSnapshot}
use Rattle.pn_lock_read.proofs.DraftOf.{aim_of, draft_of, draft_dependency, draft_importer, draft_link, draft_snapshot}
use Rattle.pn_lock.specs.Kept.{IsLock, IsDependency, IsImporter, IsLink, IsSnapshot, InRange}
use Rattle.pn_lock.specs.Locks.{Locked, folders_of, ids_of, paths_of}
use Rattle.pn_lock_read.specs.Settling.{Settled, ◌then◌, goal_at, place_or, then_on, all_of, settled_dependency, settled_link, settled_importer, settled_snapshot, settled}
use Rattle.pn_lock.proofs.KeptLemmas.{all_from, place_back}
use Rattle.pn_lock_read.proofs.RowLemmas.{map_map}

goal_back : (l : Locked) → IsLock l → (from base : List ℕ) (to : LockGoal) → InRange l to → goal_at (folders_of l.importers) (paths_of l.snapshots) from (aim_of l base to) ≡ Ok to
goal_back l k from base (goal.Importer n) r =
    ap (place_or from _ goal.Importer) (place_back (folders_of l.importers) n (subst (λ m. n < m) (sym (length-map l.importers (λ (i : LockImporter). i.folder))) r) k.importers_rise)
goal_back l k from base (goal.Snapshot n) r =
    ap (place_or from _ goal.Snapshot) (place_back (paths_of l.snapshots) n (subst (λ m. n < m) (sym (length-map l.snapshots (λ (s : LockSnapshot). s.path))) r) k.snapshots_rise)

all_back : {A B : Type 0} (f : A → Settled B) (made : B → A) (xs : List B) → AllByRecursion (λ x. f (made x) ≡ Ok x) xs → all_of f (map made xs) ≡ Ok xs
all_back f made [] h = refl
all_back f made (x ∷ xs) h = ap (λ r. r then λ y. then_on y (all_of f (map made xs))) h.0 ∙ ap (then_on x) (all_back f made xs h.1)

dependencies_settled : (l : Locked) → IsLock l → (folder : List ℕ) (ds : List LockDependency) → AllByRecursion (IsDependency l) ds
    → all_of (settled_dependency (folders_of l.importers) (paths_of l.snapshots) folder) (map (draft_dependency l folder) ds) ≡ Ok ds
dependencies_settled l k folder ds h =
    all_back (settled_dependency (folders_of l.importers) (paths_of l.snapshots) folder) (draft_dependency l folder) ds
    (all_from ds (λ d g. ap (λ r. r then λ to. Ok (record { alias = d.alias; specifier = d.specifier; to = to })) (goal_back l k folder folder d.to g.range)) h)

links_settled : (l : Locked) → IsLock l → (from own : List ℕ) (ks : List LockLink) → AllByRecursion (IsLink l own) ks
    → all_of (settled_link (folders_of l.importers) (paths_of l.snapshots) from) (map (draft_link l) ks) ≡ Ok ks
links_settled l k from own ks h =
    all_back (settled_link (folders_of l.importers) (paths_of l.snapshots) from) (draft_link l) ks
    (all_from ks (λ d g. ap (λ r. r then λ to. Ok (record { alias = d.alias; to = to })) (goal_back l k from (codes ".") d.to g.range)) h)

importer_settled : (l : Locked) → IsLock l → (i : LockImporter) → IsImporter l i → settled_importer (folders_of l.importers) (paths_of l.snapshots) (draft_importer l i) ≡ Ok i
importer_settled l k i h =
    let f = settled_dependency (folders_of l.importers) (paths_of l.snapshots) i.folder in
    let d = draft_dependency l i.folder in
    ap (λ r. r then λ ds. all_of f (map d i.dev) then λ dev. all_of f (map d i.optional) then λ opts. Ok (record { folder = i.folder; dependencies = ds; dev = dev; optional = opts }))
    (dependencies_settled l k i.folder i.dependencies h.dependencies)
    ∙ ap (λ r. r then λ dev. all_of f (map d i.optional) then λ opts. Ok (record { folder = i.folder; dependencies = i.dependencies; dev = dev; optional = opts }))
    (dependencies_settled l k i.folder i.dev h.dev)
    ∙ ap (λ r. r then λ opts. Ok (record { folder = i.folder; dependencies = i.dependencies; dev = i.dev; optional = opts })) (dependencies_settled l k i.folder i.optional h.optional)

snapshot_settled : (l : Locked) → IsLock l → (s : LockSnapshot) → IsSnapshot l s
    → settled_snapshot (folders_of l.importers) (ids_of l.packages) (paths_of l.snapshots) (draft_snapshot l s) ≡ Ok s
snapshot_settled l k s h =
    let f = settled_link (folders_of l.importers) (paths_of l.snapshots) s.path in
    let own = id_name (id_part s.path) in
    ap (λ b. cond b (Ok true) (Err (fault.Dangling s.path (id_part s.path))) then λ is. all_of f (map (draft_link l) s.dependencies) then λ ds. all_of f (map (draft_link l) s.optional) then λ opts.
    Ok (record { path = s.path; dependencies = ds; optional = opts; transitive = s.transitive })) h.locked
    ∙ ap (λ r. r then λ ds. all_of f (map (draft_link l) s.optional) then λ opts. Ok (record { path = s.path; dependencies = ds; optional = opts; transitive = s.transitive }))
    (links_settled l k s.path own s.dependencies h.dependencies)
    ∙ ap (λ r. r then λ opts. Ok (record { path = s.path; dependencies = s.dependencies; optional = opts; transitive = s.transitive })) (links_settled l k s.path own s.optional h.optional)

pub settled_back : (l : Locked) → IsLock l → settled (draft_of l) ≡ Ok l
settled_back l k =
    let folders = map_map (λ (i : DraftImporter). i.folder) (draft_importer l) (λ (i : LockImporter). i.folder) l.importers (λ i. refl) in
    let paths = map_map (λ (s : DraftSnapshot). s.path) (draft_snapshot l) (λ (s : LockSnapshot). s.path) l.snapshots (λ s. refl) in
    ap (λ fs. all_of (settled_importer fs (map (λ (s : DraftSnapshot). s.path) (map (draft_snapshot l) l.snapshots))) (map (draft_importer l) l.importers) then λ importers.
    all_of (settled_snapshot fs (ids_of l.packages) (map (λ (s : DraftSnapshot). s.path) (map (draft_snapshot l) l.snapshots))) (map (draft_snapshot l) l.snapshots) then λ snapshots.
    Ok (record { auto = l.auto; catalogs = l.catalogs; overrides = l.overrides; importers = importers; packages = l.packages; snapshots = snapshots })) folders
    ∙ ap (λ ps. all_of (settled_importer (folders_of l.importers) ps) (map (draft_importer l) l.importers) then λ importers.
    all_of (settled_snapshot (folders_of l.importers) (ids_of l.packages) ps) (map (draft_snapshot l) l.snapshots) then λ snapshots.
    Ok (record { auto = l.auto; catalogs = l.catalogs; overrides = l.overrides; importers = importers; packages = l.packages; snapshots = snapshots })) paths
    ∙ ap (λ r. r then λ importers. all_of (settled_snapshot (folders_of l.importers) (ids_of l.packages) (paths_of l.snapshots)) (map (draft_snapshot l) l.snapshots) then λ snapshots.
    Ok (record { auto = l.auto; catalogs = l.catalogs; overrides = l.overrides; importers = importers; packages = l.packages; snapshots = snapshots }))
    (all_back (settled_importer (folders_of l.importers) (paths_of l.snapshots)) (draft_importer l) l.importers (all_from l.importers (λ i h. importer_settled l k i h) k.importers))
    ∙ ap (λ r. r then λ snapshots. Ok (record { auto = l.auto; catalogs = l.catalogs; overrides = l.overrides; importers = l.importers; packages = l.packages; snapshots = snapshots }))
    (all_back (settled_snapshot (folders_of l.importers) (ids_of l.packages) (paths_of l.snapshots)) (draft_snapshot l) l.snapshots (all_from l.snapshots (λ s h. snapshot_settled l k s h) k.snapshots))
