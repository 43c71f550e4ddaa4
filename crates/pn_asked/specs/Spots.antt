-- Entries of catalogs, by catalog and name.
use Rattle.std.specs.Prelude.{ℕ, ◌&&◌, ◌||◌, Bool, false, List, [], ◌∷◌, ◌++◌, map, drop, Option, Some, None, if◌then◌else◌, bytes_eq, codes}
use Rattle.std.specs.Ordering.{is_lt, nat_cmp}
use Rattle.std.specs.Cmp.Lexicographic.{slice_cmp}
use Rattle.pn_deppath.specs.Paths.{begins}
use Rattle.pn_spec.specs.declared.entry.CatalogEntry.{CatalogEntry}
use Rattle.pn_spec.specs.declared.spec.Spec.{Spec}
use Rattle.pn_spec.specs.declared.spec.Spec.TheVariants as spec
use Rattle.pn_spec.specs.SpecTexts.{trimmed}
use Rattle.pn_spec.specs.Tags.{is_catalog, or_default}
use Rattle.pn_lock.specs.declared.lists.LockCatalog.{LockCatalog}
use Rattle.pn_lock.specs.declared.lists.LockDependency.{LockDependency}
use Rattle.pn_lock.specs.declared.lists.LockImporter.{LockImporter}
use Rattle.pn_asked.specs.declared.spots.Spot.{Spot}

abbrev pub spot : List ℕ → List ℕ → Spot
spot catalog name = record { catalog = catalog; name = name }

abbrev pub is_at : Spot → List ℕ → List ℕ → Bool
is_at s catalog name = bytes_eq s.catalog catalog && bytes_eq s.name name

-- byte order of catalogs, and in a catalog of names
abbrev pub spot_below : Spot → Spot → Bool
spot_below a b = is_lt (slice_cmp nat_cmp a.catalog b.catalog) || (bytes_eq a.catalog b.catalog && is_lt (slice_cmp nat_cmp a.name b.name))

-- the specifier of an entry in a lock, and in what is asked
abbrev pub locked_at : Spot → List LockCatalog → Option (List ℕ)
locked_at s [] = None
locked_at s (e ∷ es) = if is_at s e.catalog e.name then Some e.specifier else locked_at s es

abbrev pub asked_at : Spot → List CatalogEntry → Option (List ℕ)
asked_at s [] = None
asked_at s (e ∷ es) = if is_at s e.catalog e.name then Some e.text else asked_at s es

-- both have the entry, with one specifier
abbrev pub both_have : Option (List ℕ) → Option (List ℕ) → Bool
both_have (Some a) (Some b) = bytes_eq a b
both_have (Some a) None = false
both_have None other = false

abbrev pub fits_at : List LockCatalog → List CatalogEntry → Spot → Bool
fits_at es cs s = both_have (locked_at s es) (asked_at s cs)

-- the catalog that a specifier names
abbrev pub named_by : List ℕ → Option (List ℕ)
named_by t = if begins (codes "catalog:") t && is_catalog (drop 8 t) then Some (or_default (drop 8 t)) else None

abbrev pub catalog_named : List ℕ → Option (List ℕ)
catalog_named text = named_by (trimmed text)

-- the same of a specifier that is read
abbrev pub catalog_of : Spec → Option (List ℕ)
catalog_of (spec.Range r) = None
catalog_of (spec.Tag t) = None
catalog_of (spec.Alias n w) = None
catalog_of (spec.Workspace w) = None
catalog_of (spec.Catalog c) = Some c

abbrev pub with_spot : List ℕ → Option (List ℕ) → List Spot → List Spot
with_spot alias None spots = spots
with_spot alias (Some c) spots = spot c alias ∷ spots

-- the entries that specifiers name
abbrev pub spots_in : List LockDependency → List Spot
spots_in [] = []
spots_in (d ∷ ds) = with_spot d.alias (catalog_named d.specifier) (spots_in ds)

abbrev pub project_spots : LockImporter → List Spot
project_spots i = spots_in i.dependencies ++ (spots_in i.dev ++ spots_in i.optional)

abbrev pub spots_of : List LockImporter → List Spot
spots_of [] = []
spots_of (i ∷ is) = project_spots i ++ spots_of is

abbrev pub lesser_spot : Option Spot → Option Spot → Option Spot
lesser_spot None other = other
lesser_spot (Some a) None = Some a
lesser_spot (Some a) (Some b) = if spot_below b a then Some b else Some a

-- the least of these entries that fails a test, and of one that was found before
abbrev pub least_spot : (Spot → Bool) → Option Spot → List Spot → Option Spot
least_spot good best [] = best
least_spot good best (s ∷ ss) = least_spot good (lesser_spot best (if good s then None else Some s)) ss

abbrev pub locked_spots : List LockCatalog → List Spot
locked_spots es = map (λ (e : LockCatalog). spot e.catalog e.name) es

-- the least entry, of those that the lock has and those that its specifiers name, that isn't the same on both sides
abbrev pub worst_spot : List LockCatalog → List LockImporter → List CatalogEntry → Option Spot
worst_spot es is cs = least_spot (fits_at es cs) (least_spot (fits_at es cs) None (locked_spots es)) (spots_of is)
