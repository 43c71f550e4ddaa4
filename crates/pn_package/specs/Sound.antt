-- What the packages of an install keep.
use Rattle.std.specs.Prelude.{◌≡◌, ◌≢◌, ◌≤◌, List, [], ◌++◌, true, length}
use Rattle.std.specs.List.{Contains}
use Rattle.pn_text.specs.declared.limits.TheConstants.{PATH_LIMIT}
use Rattle.pn_text.specs.Ids.{id_name, is_id}
use Rattle.pn_text.specs.Path.{Path, path_text}
use Rattle.pn_text.specs.Name.{is_name}
use Rattle.pn_fs.specs.Tree.{Tree, IsFile}
use Rattle.pn_node.specs.Plan.{IsSoundFile}
use Rattle.pn_package.specs.Links.{Id, Pair, IsRising}
use Rattle.pn_package.specs.declared.packages.Package.{Package}

-- all that a package has
pub record Contents : Type 0 where
  pub id : Id
  pub links : List Pair
  pub folder : Path
  pub files : List Path

abbrev pub contents : Package → Contents
contents p = record { id = p.id; links = p.links; folder = p.folder; files = p.files.items }

-- a package name and a package's id
pub record IsSoundPair (l : Pair) : Type 0 where
  pub named : is_name l.0 ≡ true
  pub target : is_id l.1 ≡ true

-- links to packages, each alias once
pub record AreSoundLinks (all : List Pair) : Type 0 where
  pub rising : IsRising all
  pub each : (l : Pair) → Contains all l → IsSoundPair l

-- A package's files are below its folder with no part `node_modules`, none is above another, and
-- each has a path in the registry. Its own name is none of its aliases.
pub record IsSoundPackage (p : Package) : Type 0 where
  pub id : is_id p.id ≡ true
  pub links : AreSoundLinks p.links
  pub others : (l : Pair) → Contains p.links l → l.0 ≢ id_name p.id
  pub files : (f : Path) → Contains p.files.items f → IsSoundFile f
  pub apart : (s f : Path) → Contains p.files.items f → Contains p.files.items (s ++ f) → s ≡ []
  pub short : (f : Path) → Contains p.files.items f → length (path_text (f ++ p.folder)) ≤ PATH_LIMIT

-- no two packages have one id
pub record AreSound (packages : List Package) : Type 0 where
  pub each : (p : Package) → Contains packages p → IsSoundPackage p
  pub apart : (p q : Package) → Contains packages p → Contains packages q → p.id ≡ q.id → p ≡ q

-- the files stand in the registry
abbrev pub FilesStand : Tree → List Package → Type 0
FilesStand r packages = (p : Package) (f : Path) → Contains packages p → Contains p.files.items f → IsFile r (f ++ p.folder)

-- one of the packages has this id
abbrev pub IsAmong : List Package → Id → Type 0
IsAmong packages id = (p : Package) × Contains packages p × (p.id ≡ id)

-- every link, of the project and of the packages, leads to one of the packages
pub record AreWhole (direct : List Pair) (packages : List Package) : Type 0 where
  pub project : (l : Pair) → Contains direct l → IsAmong packages l.1
  pub others : (p : Package) (l : Pair) → Contains packages p → Contains p.links l → IsAmong packages l.1
