-- The entries of catalogs that are used.
use Rattle.std.specs.Prelude.{ℕ, ◌&&◌, List, [], ◌∷◌, ◌++◌, Option, Some, None, if◌then◌else◌, bytes_eq, slice_get}
use Rattle.pn_text.specs.Ids.{id_version}
use Rattle.pn_spec.specs.declared.entry.CatalogEntry.{CatalogEntry}
use Rattle.pn_lock.specs.declared.lists.LockCatalog.{LockCatalog}
use Rattle.pn_asked.specs.Spots.{catalog_named}
use Rattle.pn_graph.specs.declared.links.At.{At}
use Rattle.pn_graph.specs.declared.links.Dep.{Dep}
use Rattle.pn_graph.specs.declared.links.Package.{Package}
use Rattle.pn_graph.specs.declared.links.Project.{Project}
use Rattle.pn_graph.specs.declared.links.At.TheVariants.{Package as to_package, Project as to_project}
use Rattle.pn_graph.specs.Lookups.{package_id}
use Rattle.pn_lock_make.specs.declared.catalogs.Use.{Use}

-- the version of the package at a place
abbrev pub version_at : List Package → ℕ → List ℕ
version_at packages k = id_version (package_id (slice_get packages k))

-- A dependency on a package uses the entry that its specifier names.
abbrev pub use_of : List Package → List ℕ → Option (List ℕ) → At → List Use
use_of packages name None to = []
use_of packages name (Some c) (to_project q) = []
use_of packages name (Some c) (to_package k) = record { catalog = c; name = name; version = version_at packages k.0 } ∷ []

abbrev pub uses_in : List Package → List Dep → List Use
uses_in packages [] = []
uses_in packages (d ∷ ds) = use_of packages d.alias (catalog_named d.specifier) d.to ++ uses_in packages ds

abbrev pub project_uses : List Package → List Project → List Use
project_uses packages [] = []
project_uses packages (p ∷ ps) = uses_in packages p.deps ++ project_uses packages ps

abbrev pub package_uses : List Package → List Package → List Use
package_uses packages [] = []
package_uses packages (p ∷ ps) = uses_in packages p.deps ++ package_uses packages ps

-- the uses of a graph: those of its projects, then those of its packages
abbrev pub uses_of : List Project → List Package → List Use
uses_of projects packages = project_uses packages projects ++ package_uses packages packages

-- the version that the first use of an entry leads to
abbrev pub used_at : List ℕ → List ℕ → List Use → Option (List ℕ)
used_at catalog name [] = None
used_at catalog name (u ∷ us) = if bytes_eq u.catalog catalog && bytes_eq u.name name then Some u.version else used_at catalog name us

abbrev pub entry_of : CatalogEntry → Option (List ℕ) → List LockCatalog
entry_of e None = []
entry_of e (Some version) = record { catalog = e.catalog; name = e.name; specifier = e.text; version = version } ∷ []

-- the entries that are used, in their order
abbrev pub entries_of : List Use → List CatalogEntry → List LockCatalog
entries_of uses [] = []
entries_of uses (e ∷ es) = entry_of e (used_at e.catalog e.name uses) ++ entries_of uses es
