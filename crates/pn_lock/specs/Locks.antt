-- What a lock holds.
use Rattle.std.specs.Prelude.{ℕ, zero, suc, Bool, List, [], ◌∷◌, Option, Some, None, map, if◌then◌else◌, bytes_eq, option_map}
use Rattle.pn_lock.specs.declared.lists.LockCatalog.{LockCatalog}
use Rattle.pn_lock.specs.declared.lists.LockDependency.{LockDependency}
use Rattle.pn_lock.specs.declared.lists.LockImporter.{LockImporter}
use Rattle.pn_lock.specs.declared.lists.LockLink.{LockLink}
use Rattle.pn_lock.specs.declared.lists.LockPackage.{LockPackage}
use Rattle.pn_lock.specs.declared.lists.LockSnapshot.{LockSnapshot}
use Rattle.pn_lock.specs.declared.lists.Override.{Override}

pub record Locked : Type 0 where
  pub auto : Bool  -- peers that are in no manifest are installed
  pub catalogs : List LockCatalog
  pub overrides : List Override
  pub importers : List LockImporter
  pub packages : List LockPackage
  pub snapshots : List LockSnapshot

abbrev pub locked : Bool → List LockCatalog → List Override → List LockImporter → List LockPackage → List LockSnapshot → Locked
locked auto catalogs overrides importers packages snapshots =
    record { auto = auto; catalogs = catalogs; overrides = overrides; importers = importers; packages = packages; snapshots = snapshots }

-- a catalog and its entries
abbrev pub Group : Type 0
Group = List ℕ × List LockCatalog

abbrev pub onto_groups : LockCatalog → List Group → List Group
onto_groups e [] = (e.catalog, e ∷ []) ∷ []
onto_groups e (g ∷ gs) = if bytes_eq g.0 e.catalog then (g.0, e ∷ g.1) ∷ gs else (e.catalog, e ∷ []) ∷ g ∷ gs

-- entries by their catalogs
abbrev pub groups_of : List LockCatalog → List Group
groups_of [] = []
groups_of (e ∷ es) = onto_groups e (groups_of es)

-- the keys of the lists
abbrev pub folders_of : List LockImporter → List (List ℕ)
folders_of importers = map (λ (i : LockImporter). i.folder) importers

abbrev pub ids_of : List LockPackage → List (List ℕ)
ids_of packages = map (λ (p : LockPackage). p.id) packages

abbrev pub paths_of : List LockSnapshot → List (List ℕ)
paths_of snapshots = map (λ (s : LockSnapshot). s.path) snapshots

abbrev pub aliases_of : List LockDependency → List (List ℕ)
aliases_of ds = map (λ (d : LockDependency). d.alias) ds

abbrev pub links_of : List LockLink → List (List ℕ)
links_of ls = map (λ (l : LockLink). l.alias) ls

-- the key at a place, and the place of a key
abbrev pub key_at : List (List ℕ) → ℕ → List ℕ
key_at [] n = []
key_at (k ∷ ks) zero = k
key_at (k ∷ ks) (suc n) = key_at ks n

abbrev pub place_of : List ℕ → List (List ℕ) → Option ℕ
place_of key [] = None
place_of key (k ∷ ks) = if bytes_eq k key then Some 0 else option_map suc (place_of key ks)
