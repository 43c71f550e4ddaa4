-- What a run asks of a lock.
use Rattle.std.specs.Prelude.{ℕ, Bool, List, map}
use Rattle.std.specs.List.{AllByRecursion}
use Rattle.pn_spec.specs.declared.entry.CatalogEntry.{CatalogEntry}
use Rattle.pn_lock.specs.Kept.{Rises}
use Rattle.pn_asked.specs.declared.asked.AskedProject.{AskedProject}
use Rattle.pn_asked.specs.Rows.{Row, keys}

pub record AskedLists : Type 0 where
  pub auto : Bool
  pub overrides : List Row
  pub catalogs : List CatalogEntry
  pub projects : List AskedProject

abbrev pub asked : Bool → List Row → List CatalogEntry → List AskedProject → AskedLists
asked auto overrides catalogs projects = record { auto = auto; overrides = overrides; catalogs = catalogs; projects = projects }

abbrev pub project_folders : List AskedProject → List (List ℕ)
project_folders ps = map (λ (p : AskedProject). p.folder) ps

pub record IsAskedProject (p : AskedProject) : Type 0 where
  pub dependencies : Rises (keys p.dependencies)
  pub dev : Rises (keys p.dev)
  pub optional : Rises (keys p.optional)

-- each list is in byte order of its keys, none of them twice
pub record IsAsked (a : AskedLists) : Type 0 where
  pub overrides : Rises (keys a.overrides)
  pub folders : Rises (project_folders a.projects)
  pub projects : AllByRecursion IsAskedProject a.projects
