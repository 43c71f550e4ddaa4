-- What is known at the points of a run, each by what was known before it.
use Rattle.std.specs.Prelude.{List}
use Rattle.pn_text.specs.Path.{Path}
use Rattle.pn_manifest.specs.Said.{Said}
use Rattle.pn_graph.specs.declared.plain.Plain.{Plain}
use Rattle.pn_package.specs.declared.packages.Package.{Package}
use Rattle.pn_digest.specs.Listing.{Entry}
use Rattle.pn_digest.specs.declared.planned.Planned.{Planned}
use Rattle.pn_workspace.specs.declared.search.Workspace.{Workspace}

-- the folder, and its workspace
pub record Space : Type 0 where
  pub place : Path
  pub workspace : Workspace

-- and what the manifest there says
pub record Declared : Type 0 where
  pub space : Space
  pub said : Said

-- the project's folder, and what its manifest says
pub record Project : Type 0 where
  pub place : Path
  pub said : Said

-- the plain graph of what it asks for
pub record Graph : Type 0 where
  pub project : Project
  pub plain : Plain

-- its packages with their files, in byte order of ids
pub record Sources : Type 0 where
  pub graph : Graph
  pub packages : List Package

-- their listings, in the packages' order
pub record Fetched : Type 0 where
  pub sources : Sources
  pub listings : List (List Entry)

-- the tree that they make
pub record Build : Type 0 where
  pub fetched : Fetched
  pub plan : List (Path × Planned)

abbrev pub space_of : Path → Workspace → Space
space_of place workspace = record { place = place; workspace = workspace }

abbrev pub declared_of : Path → Workspace → Said → Declared
declared_of place workspace said = record { space = space_of place workspace; said = said }

abbrev pub project_of : Path → Said → Project
project_of place said = record { place = place; said = said }

abbrev pub graph_of : Path → Said → Plain → Graph
graph_of place said plain = record { project = project_of place said; plain = plain }

abbrev pub sources_of : Path → Said → Plain → List Package → Sources
sources_of place said plain packages = record { graph = graph_of place said plain; packages = packages }

abbrev pub fetched_of : Path → Said → Plain → List Package → List (List Entry) → Fetched
fetched_of place said plain packages listings = record { sources = sources_of place said plain packages; listings = listings }

abbrev pub build_of : Path → Said → Plain → List Package → List (List Entry) → List (Path × Planned) → Build
build_of place said plain packages listings plan = record { fetched = fetched_of place said plain packages listings; plan = plan }
