-- The packages of an install beside those of the graph.
use Rattle.std.specs.Prelude.{◌≡◌, ◌≢◌, ◌≤◌, ℕ, List, [], ◌∷◌, ◌++◌, slice_get, length, map, Option, Some, IfSome, true, false}
use Rattle.std.specs.Cmp.Lexicographic.{slice_cmp}
use Rattle.std.specs.List.{Contains, flat_map}
use Rattle.std.specs.List.Sorted.{IsStrictlySortedBy}
use Rattle.std.specs.Ordering.{nat_cmp}
use Rattle.pn_text.specs.declared.limits.TheConstants.{PATH_LIMIT}
use Rattle.pn_text.specs.Ids.{is_id}
use Rattle.pn_text.specs.Path.{Path, path_text, text_below}
use Rattle.pn_fs.specs.Tree.{Tree, IsFile, file}
use Rattle.pn_node.specs.Plan.{IsSoundFile}
use Rattle.pn_graph.specs.declared.links.At.{At}
use Rattle.pn_graph.specs.declared.links.At.TheVariants.{Project as to_project, Package as to_package}
use Rattle.pn_graph.specs.declared.links.Dep.{Dep}
use Rattle.pn_graph.specs.declared.links.Package.{Package as Node}
use Rattle.pn_graph.specs.Lookups.{package_id as package_id_of, project_deps}
use Rattle.pn_graph.specs.declared.plain.Plain.{Plain}
use Rattle.pn_registry.specs.Below.{HasFew}
use Rattle.pn_registry.specs.Files.{File, file_limit, holds_line_feed}
use Rattle.pn_registry.specs.FilesFaults.{entry_limit}
use Rattle.pn_registry.specs.Places.{package_folder}
use Rattle.pn_package.specs.declared.packages.Package.{Package}
use Rattle.pn_package.specs.Links.{Id, Pair}
use Rattle.pn_package.specs.Sound.{AreSoundLinks}
use Rattle.pn_collect.specs.declared.bare.Bare.{Bare}

-- an alias with the id of the package that it leads to; none where it leads to a project
abbrev pub link_to : List Node → List ℕ → At → List Pair
link_to nodes alias (to_project q) = []
link_to nodes alias (to_package k) = (alias, package_id_of (slice_get nodes k.0)) ∷ []

-- the links of a node of the graph to packages
abbrev pub links_of : List Node → List Dep → List Pair
links_of nodes deps = flat_map (λ (d : Dep). link_to nodes d.alias d.to) deps

-- those of the root project
abbrev pub direct_of : Plain → List Pair
direct_of plain = links_of plain.packages (project_deps (slice_get plain.projects plain.root.0))

abbrev pub node_id : Node → Id
node_id q = q.id

-- a package but for its files
pub record Outline : Type 0 where
  pub id : Id
  pub links : List Pair
  pub folder : Path

abbrev pub outline : Package → Outline
outline p = record { id = p.id; links = p.links; folder = p.folder }

-- what becomes of a package of the graph: its folder is the registry's
abbrev pub wanted : List Node → Node → Outline
wanted nodes q = record { id = q.id; links = links_of nodes q.deps; folder = package_folder q.id }

-- a package of the graph without its files, and what becomes of it
abbrev pub bare_of : List Node → Node → Bare
bare_of nodes q = record { id = q.id; links = links_of nodes q.deps }

abbrev pub dressed : Bare → Outline
dressed b = record { id = b.id; links = b.links; folder = package_folder b.id }

abbrev pub bare_id : Bare → Id
bare_id b = b.id

abbrev pub package_id : Package → Id
package_id p = p.id

-- These are exactly the files below a folder, but for those with a line feed in their path there. None is too long, and the
-- folder has not too many entries.
pub record AreFilesBelow (t : Tree) (folder : Path) (files : List Path) : Type 0 where
  pub stand : (f : Path) → Contains files f → IsFile t (f ++ folder)
  pub plain : (f : Path) → Contains files f → holds_line_feed f ≡ false
  pub all : (f : Path) → holds_line_feed f ≡ false → IsFile t (f ++ folder) → Contains files f
  pub short : (f : Path) (bytes : List ℕ) → Contains files f → t (f ++ folder) ≡ Some (file bytes) → length bytes ≤ file_limit
  pub few : HasFew t folder entry_limit

-- The files of a package are exactly those below its folder.
abbrev pub HasFiles : Tree → Package → Type 0
HasFiles t p = AreFilesBelow t p.folder p.files.items

abbrev pub HaveFiles : Tree → List Package → Type 0
HaveFiles t packages = (p : Package) → Contains packages p → HasFiles t p

-- byte order of their texts, each once
abbrev pub AreRising : List Path → Type 0
AreRising files = IsStrictlySortedBy (slice_cmp nat_cmp) (map text_below files)

-- Files of a package stand below its folder, in order, none is above another, each has a path in the registry, and no part
-- of a path has a line feed.
pub record AreSoundFiles (folder : Path) (files : List Path) : Type 0 where
  pub rising : AreRising files
  pub each : (f : Path) → Contains files f → IsSoundFile f
  pub apart : (s f : Path) → Contains files f → Contains files (s ++ f) → s ≡ []
  pub short : (f : Path) → Contains files f → length (path_text (f ++ folder)) ≤ PATH_LIMIT
  pub lines : (f : Path) → Contains files f → holds_line_feed f ≡ false

-- The files of the package of this id can be taken.
abbrev pub HasPassed : Option Tree → Id → Type 0
HasPassed r id = IfSome r (λ t. (files : List Path) × AreSoundFiles (package_folder id) files × AreFilesBelow t (package_folder id) files)

-- What a package keeps whatever the others are.
pub record IsMade (p : Package) : Type 0 where
  pub id : is_id p.id ≡ true
  pub links : AreSoundLinks p.links
  pub files : AreSoundFiles p.folder p.files.items

pub record IsSoundBare (b : Bare) : Type 0 where
  pub id : is_id b.id ≡ true
  pub links : AreSoundLinks b.links

abbrev pub path_of : File → Path
path_of f = f.0

-- below the folder
abbrev pub IsBelow : Path → Type 0
IsBelow f = f ≢ []
