-- A lock without development dependencies and what only they reach.
use Rattle.std.specs.Prelude.{◌≡◌, List, Bool, length, map}
use Rattle.std.specs.List.{filter}
use Rattle.pn_lock.specs.Locks.{Locked}
use Rattle.pn_lock_prod.specs.Kept.{new_importer, new_snapshots, numbers_from, stays}
use Rattle.pn_lock_prod.specs.Targets.{Stays}
use Rattle.pn_lock_prod.specs.Walks.{AreMarks}

-- The snapshots that stay are marked; links lead to their new places.
pub record IsProduction (l new : Locked) : Type 0 where
  pub marks : List Bool
  pub marks_are : AreMarks (length l.snapshots) (Stays l) marks
  pub auto : new.auto ≡ l.auto
  pub catalogs : new.catalogs ≡ l.catalogs
  pub overrides : new.overrides ≡ l.overrides
  pub importers : new.importers ≡ map (new_importer (numbers_from 0 marks)) l.importers
  pub packages : new.packages ≡ filter (stays marks l.snapshots) l.packages
  pub snapshots : new.snapshots ≡ new_snapshots (numbers_from 0 marks) marks l.snapshots
