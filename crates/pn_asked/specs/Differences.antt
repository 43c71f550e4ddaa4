-- The first difference between a lock and what is asked of it.
use Rattle.std.specs.Prelude.{ℕ, ◌||◌, ◌&&◌, Bool, true, false, not, List, [], ◌∷◌, map, Option, Some, None, if◌then◌else◌, bytes_eq, option_map}
use Rattle.std.specs.List.{find}
use Rattle.pn_lock.specs.declared.lists.LockDependency.{LockDependency}
use Rattle.pn_lock.specs.declared.lists.LockImporter.{LockImporter}
use Rattle.pn_lock.specs.declared.lists.Override.{Override}
use Rattle.pn_lock.specs.Links.{or_else}
use Rattle.pn_lock.specs.Locks.{Locked, folders_of}
use Rattle.pn_asked.specs.declared.asked.AskedProject.{AskedProject}
use Rattle.pn_asked.specs.declared.difference.Difference.{Difference}
use Rattle.pn_asked.specs.declared.difference.Difference.TheVariants as difference
use Rattle.pn_asked.specs.declared.spots.Spot.{Spot}
use Rattle.pn_asked.specs.Asked.{AskedLists, project_folders}
use Rattle.pn_asked.specs.Rows.{Row, agree, at_key, first_missing, first_other, is_in, keys, lesser}
use Rattle.pn_asked.specs.Spots.{worst_spot}

abbrev pub setting_differs : Bool → Bool → Option Difference
setting_differs true true = None
setting_differs false false = None
setting_differs true false = Some difference.Setting
setting_differs false true = Some difference.Setting

abbrev pub override_rows : List Override → List Row
override_rows os = map (λ (o : Override). (o.selector, o.value)) os

-- the least selector that stands on one side alone, or has another value
abbrev pub override_differs : List Override → List Row → Option (List ℕ)
override_differs os rows = lesser (first_other (override_rows os) rows) (first_other rows (override_rows os))

-- the least folder that stands on one side alone
abbrev pub importer_differs : List LockImporter → List AskedProject → Option (List ℕ)
importer_differs is ps = lesser (first_missing (folders_of is) (project_folders ps)) (first_missing (project_folders ps) (folders_of is))

abbrev pub rows_of : List LockDependency → List Row
rows_of ds = map (λ (d : LockDependency). (d.alias, d.specifier)) ds

-- whether a project of the lock has the name in one of its maps
abbrev pub has_alias : LockImporter → List ℕ → Bool
has_alias i key = is_in (keys (rows_of i.dependencies)) key || (is_in (keys (rows_of i.dev)) key || is_in (keys (rows_of i.optional)) key)

-- an optional name that is asked, has another specifier in the lock's optional ones, or none, and is known to the lock
abbrev pub is_lost : LockImporter → List Row → List ℕ → Bool
is_lost i rows k = not (agree (at_key k rows) (at_key k (rows_of i.optional))) && has_alias i k

abbrev pub first_optional : LockImporter → List Row → Option (List ℕ)
first_optional i rows = find (is_lost i rows) (keys rows)

-- the least name in a project that stands on one side alone, in another map or with another specifier; an optional one that
-- the lock lacks is none
abbrev pub project_differs : LockImporter → AskedProject → Option (List ℕ)
project_differs i p =
    lesser (first_other (rows_of i.dependencies) p.dependencies) (lesser (first_other (rows_of i.dev) p.dev) (lesser (first_other (rows_of i.optional) p.optional)
    (lesser (first_other p.dependencies (rows_of i.dependencies)) (lesser (first_other p.dev (rows_of i.dev)) (first_optional i p.optional)))))

abbrev pub project_at : List ℕ → List AskedProject → Option AskedProject
project_at folder [] = None
project_at folder (p ∷ ps) = if bytes_eq p.folder folder then Some p else project_at folder ps

abbrev pub alias_differs : LockImporter → Option AskedProject → Option (List ℕ)
alias_differs i None = None
alias_differs i (Some p) = project_differs i p

-- the first project with such a name, in byte order of folders
abbrev pub specifier_differs : List LockImporter → List AskedProject → Option Difference
specifier_differs [] ps = None
specifier_differs (i ∷ is) ps = or_else (option_map (difference.Specifier i.folder) (alias_differs i (project_at i.folder ps))) (specifier_differs is ps)

abbrev pub spot_difference : Spot → Difference
spot_difference s = difference.Catalog s.catalog s.name

-- the first difference in the order of settings, overrides, catalogs, projects and specifiers
abbrev pub first_of : Locked → AskedLists → Option Difference
first_of l a =
    or_else (setting_differs l.auto a.auto)
    (or_else (option_map difference.Override (override_differs l.overrides a.overrides))
    (or_else (option_map spot_difference (worst_spot l.catalogs l.importers a.catalogs))
    (or_else (option_map difference.Importer (importer_differs l.importers a.projects))
    (specifier_differs l.importers a.projects))))
