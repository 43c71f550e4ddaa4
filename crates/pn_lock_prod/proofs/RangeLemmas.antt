-- What is in range of a lock.
use Rattle.std.proofs.Common.{◌≡◌, ◌<◌, ℕ, zero, suc, List, [], ◌∷◌, ◌++◌, length, inl, inr, sym, subst}
use Rattle.std.specs.Prelude.{slice_get}
use Rattle.std.specs.List.{All, AllByRecursion, Contains}
use Rattle.std.proofs.lemmas.List.Elements.{All-from_recursion, Contains-append_cases}
use Rattle.pn_text.proofs.Members.{in_one, none_in}
use Rattle.pn_text.specs.Ids.{id_name}
use Rattle.pn_deppath.specs.Paths.{id_part}
use Rattle.pn_lock.specs.declared.goal.LockGoal.{LockGoal}
use Rattle.pn_lock.specs.declared.goal.LockGoal.TheVariants as goal
use Rattle.pn_lock.specs.declared.lists.LockDependency.{LockDependency}
use Rattle.pn_lock.specs.declared.lists.LockImporter.{LockImporter}
use Rattle.pn_lock.specs.declared.lists.LockLink.{LockLink}
use Rattle.pn_lock.specs.declared.lists.LockSnapshot.{LockSnapshot}
use Rattle.pn_lock.specs.Kept.{InRange, IsDependency, IsImporter, IsLink, IsLock, IsSnapshot}
use Rattle.pn_lock.specs.Locks.{Locked}
use Rattle.pn_lock_prod.specs.Places.{AreNumbered, AreNumberedLinks, HasNumber, IsNumberedImporter, IsNumberedSnapshot}
use Rattle.pn_lock_prod.specs.Targets.{AreThere, dependency_targets, dev_targets, goal_targets, kept_targets, link_targets, or_none, snapshot_targets}
use Rattle.pn_lock_prod.proofs.ListLemmas.{weaker}

goal_within : (l : Locked) (to : LockGoal) (k : ℕ) → InRange l to → Contains (goal_targets to) k → k < length l.snapshots
goal_within l (goal.Importer q) k r c = absurd (none_in k c)
goal_within l (goal.Snapshot n) k r c = subst (λ (m : ℕ). m < length l.snapshots) (in_one n k c) r

deps_within : (l : Locked) (ds : List LockDependency) (k : ℕ) → AllByRecursion (IsDependency l) ds → Contains (dependency_targets ds) k → k < length l.snapshots
deps_within l [] k h c = absurd (none_in k c)
deps_within l (d ∷ ds) k h c = elim (Contains-append_cases (goal_targets d.to) (dependency_targets ds) k c) [
  | inl a ↦ goal_within l d.to k h.0.range a
  | inr b ↦ deps_within l ds k h.1 b
]

links_within : (l : Locked) (own : List ℕ) (ls : List LockLink) (k : ℕ) → AllByRecursion (IsLink l own) ls → Contains (link_targets ls) k → k < length l.snapshots
links_within l own [] k h c = absurd (none_in k c)
links_within l own (x ∷ ls) k h c = elim (Contains-append_cases (goal_targets x.to) (link_targets ls) k c) [
  | inl a ↦ goal_within l x.to k h.0.range a
  | inr b ↦ links_within l own ls k h.1 b
]

pub dev_within : (l : Locked) (is : List LockImporter) → AllByRecursion (IsImporter l) is → (k : ℕ) → Contains (dev_targets is) k → k < length l.snapshots
dev_within l [] h k c = absurd (none_in k c)
dev_within l (i ∷ is) h k c = elim (Contains-append_cases (dependency_targets i.dev) (dev_targets is) k c) [
  | inl a ↦ deps_within l i.dev k h.0.dev a
  | inr b ↦ dev_within l is h.1 k b
]

pub kept_within : (l : Locked) (is : List LockImporter) → AllByRecursion (IsImporter l) is → (k : ℕ) → Contains (kept_targets is) k → k < length l.snapshots
kept_within l [] h k c = absurd (none_in k c)
kept_within l (i ∷ is) h k c = elim (Contains-append_cases (dependency_targets i.dependencies ++ dependency_targets i.optional) (kept_targets is) k c) [
  | inl a ↦ elim (Contains-append_cases (dependency_targets i.dependencies) (dependency_targets i.optional) k a) [
    | inl x ↦ deps_within l i.dependencies k h.0.dependencies x
    | inr y ↦ deps_within l i.optional k h.0.optional y
  ]
  | inr b ↦ kept_within l is h.1 k b
]

row_within : (l : Locked) (s : LockSnapshot) (k : ℕ) → IsSnapshot l s → Contains (snapshot_targets s) k → k < length l.snapshots
row_within l s k h c = elim (Contains-append_cases (link_targets s.dependencies) (link_targets s.optional) k c) [
  | inl a ↦ links_within l (id_name (id_part s.path)) s.dependencies k h.dependencies a
  | inr b ↦ links_within l (id_name (id_part s.path)) s.optional k h.optional b
]

there_from : (l : Locked) (ss : List LockSnapshot) → AllByRecursion (IsSnapshot l) ss → (j k : ℕ) → Contains (or_none (slice_get ss j)) k → k < length l.snapshots
there_from l [] h j k c = absurd (none_in k c)
there_from l (s ∷ ss) h zero k c = row_within l s k h.0 c
there_from l (s ∷ ss) h (suc j) k c = there_from l ss h.1 j k c

pub all_there : (l : Locked) → AllByRecursion (IsSnapshot l) l.snapshots → AreThere l.snapshots
all_there l h j k c = there_from l l.snapshots h j k c

-- ---- targets have a number

goal_numbered : (l : Locked) (n : ℕ) → n ≡ length l.snapshots → (to : LockGoal) → InRange l to → HasNumber n to
goal_numbered l n same (goal.Importer q) r = tt
goal_numbered l n same (goal.Snapshot k) r = subst (λ (m : ℕ). k < m) (sym same) r

deps_numbered : (l : Locked) (n : ℕ) → n ≡ length l.snapshots → (ds : List LockDependency) → AllByRecursion (IsDependency l) ds → AreNumbered n ds
deps_numbered l n same ds h = All-from_recursion (λ (d : LockDependency). HasNumber n d.to) ds (weaker (IsDependency l) (λ (d : LockDependency). HasNumber n d.to) ds (λ d i. goal_numbered l n same d.to i.range) h)

links_numbered : (l : Locked) (own : List ℕ) (n : ℕ) → n ≡ length l.snapshots → (ls : List LockLink) → AllByRecursion (IsLink l own) ls → AreNumberedLinks n ls
links_numbered l own n same ls h = All-from_recursion (λ (x : LockLink). HasNumber n x.to) ls (weaker (IsLink l own) (λ (x : LockLink). HasNumber n x.to) ls (λ x i. goal_numbered l n same x.to i.range) h)

pub importers_numbered : (l : Locked) (n : ℕ) → n ≡ length l.snapshots → (is : List LockImporter) → AllByRecursion (IsImporter l) is → All (IsNumberedImporter n) is
importers_numbered l n same is h = All-from_recursion (IsNumberedImporter n) is (weaker (IsImporter l) (IsNumberedImporter n) is
    (λ i k. record { dependencies = deps_numbered l n same i.dependencies k.dependencies; optional = deps_numbered l n same i.optional k.optional }) h)

pub snapshots_numbered : (l : Locked) (n : ℕ) → n ≡ length l.snapshots → (ss : List LockSnapshot) → AllByRecursion (IsSnapshot l) ss → All (IsNumberedSnapshot n) ss
snapshots_numbered l n same ss h = All-from_recursion (IsNumberedSnapshot n) ss (weaker (IsSnapshot l) (IsNumberedSnapshot n) ss
    (λ s k. record {
      dependencies = links_numbered l (id_name (id_part s.path)) n same s.dependencies k.dependencies;
      optional = links_numbered l (id_name (id_part s.path)) n same s.optional k.optional;
    }) h)

-- ---- what walks ask

pub dev_starts : (l : Locked) (ss : List LockSnapshot) (starts : List ℕ) → IsLock l → ss ≡ l.snapshots → starts ≡ dev_targets l.importers → (k : ℕ) → Contains starts k → k < length ss
dev_starts l ss starts h same is k c = subst (λ (s : List LockSnapshot). k < length s) (sym same) (dev_within l l.importers h.importers k (subst (λ (x : List ℕ). Contains x k) is c))

pub these_there : (l : Locked) (ss : List LockSnapshot) → IsLock l → ss ≡ l.snapshots → AreThere ss
these_there l ss h same = subst (λ (s : List LockSnapshot). AreThere s) (sym same) (all_there l h.snapshots)
