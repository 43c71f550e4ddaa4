-- What each draft keeps.
use Rattle.std.specs.Prelude.{◌≡◌, ℕ, ◌++◌, true, false, List, map, bytes_eq}
use Rattle.std.specs.List.{AllByRecursion}
use Rattle.pn_text.specs.Ids.{id_name}
use Rattle.pn_text.specs.Name.{is_name}
use Rattle.pn_deppath.specs.Paths.{id_part, is_dep_path}
use Rattle.pn_lock.specs.declared.lists.LockCatalog.{LockCatalog}
use Rattle.pn_lock.specs.declared.lists.Override.{Override}
use Rattle.pn_lock.specs.Folders.{is_folder}
use Rattle.pn_lock.specs.Kept.{IsPackage, NoneOf, Rises}
use Rattle.pn_lock.specs.Locks.{Group, groups_of, ids_of}
use Rattle.pn_lock_shape.specs.declared.drafts.Draft.{Draft}
use Rattle.pn_lock_shape.specs.declared.drafts.DraftImporter.{DraftImporter}
use Rattle.pn_lock_shape.specs.declared.drafts.DraftSnapshot.{DraftSnapshot}
use Rattle.pn_lock_shape.specs.Reading.{aliases_in, links_in}

abbrev pub AreNames : List (List ℕ) → Type 0
AreNames names = AllByRecursion (λ (k : List ℕ). is_name k ≡ true) names

pub record IsDraftImporter (i : DraftImporter) : Type 0 where
  pub folder : is_folder i.folder ≡ true
  pub dependencies : AreNames (aliases_in i.dependencies)
  pub dev : AreNames (aliases_in i.dev)
  pub optional : AreNames (aliases_in i.optional)
  pub dependencies_rise : Rises (aliases_in i.dependencies)
  pub dev_rise : Rises (aliases_in i.dev)
  pub optional_rise : Rises (aliases_in i.optional)
  pub dev_apart : NoneOf (aliases_in i.dependencies) (aliases_in i.dev)
  pub optional_apart : NoneOf (aliases_in i.dependencies ++ aliases_in i.dev) (aliases_in i.optional)

-- no name is a snapshot's own
abbrev pub Others : List ℕ → List (List ℕ) → Type 0
Others own names = AllByRecursion (λ (k : List ℕ). bytes_eq k own ≡ false) names

pub record IsDraftSnapshot (s : DraftSnapshot) : Type 0 where
  pub path : is_dep_path s.path ≡ true
  pub dependencies : AreNames (links_in s.dependencies)
  pub optional : AreNames (links_in s.optional)
  pub dependencies_other : Others (id_name (id_part s.path)) (links_in s.dependencies)
  pub optional_other : Others (id_name (id_part s.path)) (links_in s.optional)
  pub transitive : AreNames s.transitive
  pub dependencies_rise : Rises (links_in s.dependencies)
  pub optional_rise : Rises (links_in s.optional)
  pub transitive_rise : Rises s.transitive
  pub optional_apart : NoneOf (links_in s.dependencies) (links_in s.optional)

-- the folders of importers, and the dep paths of snapshots
abbrev pub folders_in : List DraftImporter → List (List ℕ)
folders_in is = map (λ (i : DraftImporter). i.folder) is

abbrev pub paths_in : List DraftSnapshot → List (List ℕ)
paths_in ss = map (λ (s : DraftSnapshot). s.path) ss

pub record IsDraft (d : Draft) : Type 0 where
  pub importers : AllByRecursion IsDraftImporter d.importers
  pub packages : AllByRecursion IsPackage d.packages
  pub snapshots : AllByRecursion IsDraftSnapshot d.snapshots
  pub catalogs : AllByRecursion (λ (e : LockCatalog). is_name e.name ≡ true) d.catalogs
  pub catalogs_rise : Rises (map (λ (g : Group). g.0) (groups_of d.catalogs))
  pub entries_rise : AllByRecursion (λ (g : Group). Rises (map (λ (e : LockCatalog). e.name) g.1)) (groups_of d.catalogs)
  pub overrides_rise : Rises (map (λ (o : Override). o.selector) d.overrides)
  pub importers_rise : Rises (folders_in d.importers)
  pub packages_rise : Rises (ids_of d.packages)
  pub snapshots_rise : Rises (paths_in d.snapshots)
