-- Targets that have a new place.
use Rattle.std.specs.Prelude.{◌<◌, ℕ, List}
use Rattle.std.specs.List.{All}
use Rattle.pn_lock.specs.declared.goal.LockGoal.{LockGoal}
use Rattle.pn_lock.specs.declared.goal.LockGoal.TheVariants as goal
use Rattle.pn_lock.specs.declared.lists.LockDependency.{LockDependency}
use Rattle.pn_lock.specs.declared.lists.LockImporter.{LockImporter}
use Rattle.pn_lock.specs.declared.lists.LockLink.{LockLink}
use Rattle.pn_lock.specs.declared.lists.LockSnapshot.{LockSnapshot}

abbrev pub HasNumber : ℕ → LockGoal → Type 0
HasNumber count (goal.Importer q) = Unit {0}
HasNumber count (goal.Snapshot k) = k < count

abbrev pub AreNumbered : ℕ → List LockDependency → Type 0
AreNumbered count ds = All (λ (d : LockDependency). HasNumber count d.to) ds

abbrev pub AreNumberedLinks : ℕ → List LockLink → Type 0
AreNumberedLinks count ls = All (λ (l : LockLink). HasNumber count l.to) ls

pub record IsNumberedImporter (count : ℕ) (i : LockImporter) : Type 0 where
  pub dependencies : AreNumbered count i.dependencies
  pub optional : AreNumbered count i.optional

pub record IsNumberedSnapshot (count : ℕ) (s : LockSnapshot) : Type 0 where
  pub dependencies : AreNumberedLinks count s.dependencies
  pub optional : AreNumberedLinks count s.optional
