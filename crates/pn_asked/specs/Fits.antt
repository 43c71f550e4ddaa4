-- When a lock fits what is asked of it.
use Rattle.std.specs.Prelude.{◌≡◌, ◌⊎◌, ◌↔◌, ℕ, true, false, List, Option, Some, None}
use Rattle.std.specs.List.{AllByRecursion}
use Rattle.pn_lock.specs.declared.lists.LockImporter.{LockImporter}
use Rattle.pn_lock.specs.Locks.{Locked, folders_of}
use Rattle.pn_asked.specs.declared.asked.AskedProject.{AskedProject}
use Rattle.pn_asked.specs.Asked.{AskedLists, project_folders}
use Rattle.pn_asked.specs.Differences.{first_of, has_alias, override_rows, project_at, rows_of}
use Rattle.pn_asked.specs.Rows.{at_key, is_in}
use Rattle.pn_asked.specs.Spots.{fits_at, locked_spots, spots_of}

-- the same specifiers in the same maps; an optional name may be unknown to the lock
pub record FitsProject (i : LockImporter) (p : AskedProject) : Type 0 where
  pub dependencies : (k : List ℕ) → at_key k (rows_of i.dependencies) ≡ at_key k p.dependencies
  pub dev : (k : List ℕ) → at_key k (rows_of i.dev) ≡ at_key k p.dev
  pub optional : (k : List ℕ) → (at_key k (rows_of i.optional) ≡ at_key k p.optional) ⊎ (has_alias i k ≡ false)

abbrev pub FitsFound : LockImporter → Option AskedProject → Type 0
FitsFound i None = Unit {0}
FitsFound i (Some p) = FitsProject i p

pub record Fits (l : Locked) (a : AskedLists) : Type 0 where
  pub setting : l.auto ≡ a.auto
  pub overrides : (k : List ℕ) → at_key k (override_rows l.overrides) ≡ at_key k a.overrides
  pub entries : AllByRecursion (λ s. fits_at l.catalogs a.catalogs s ≡ true) (locked_spots l.catalogs)
  pub named : AllByRecursion (λ s. fits_at l.catalogs a.catalogs s ≡ true) (spots_of l.importers)
  pub folders : (k : List ℕ) → is_in (folders_of l.importers) k ≡ is_in (project_folders a.projects) k
  pub projects : AllByRecursion (λ (i : LockImporter). FitsFound i (project_at i.folder a.projects)) l.importers

-- No difference is found exactly of a lock that fits.
abbrev pub FitsLaw : Type 0
FitsLaw = (l : Locked) (a : AskedLists) → (first_of l a ≡ None) ↔ Fits l a
