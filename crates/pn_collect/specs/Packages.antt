-- The packages of an install.
use Rattle.std.specs.Prelude.{◌≡◌, ◌≤◌, List, map, length, Option, Some, IfSome, IsPermutation}
use Rattle.std.specs.Cmp.Lexicographic.{slice_cmp}
use Rattle.std.specs.List.{All, Contains}
use Rattle.std.specs.Option.{ForSome}
use Rattle.std.specs.List.Sorted.{IsStrictlySortedBy}
use Rattle.std.specs.Ordering.{nat_cmp}
use Rattle.pn_text.specs.declared.limits.TheConstants.{ID_LIMIT}
use Rattle.pn_fs.specs.Tree.{Tree, folder}
use Rattle.pn_graph.specs.declared.links.Package.{Package as Node}
use Rattle.pn_graph.specs.declared.plain.Plain.{Plain}
use Rattle.pn_registry.specs.Places.{package_folder}
use Rattle.pn_package.specs.Links.{Id}
use Rattle.pn_package.specs.declared.packages.Package.{Package}
use Rattle.pn_package.specs.Sound.{AreSound, AreSoundLinks, AreWhole, FilesStand}
use Rattle.pn_collect.specs.Outline.{direct_of, outline, wanted, package_id, AreRising, HaveFiles, IsMade}

-- each package's folder stands in the registry, where that is told
abbrev pub FoldersStand : Option Tree → Plain → Type 0
FoldersStand r plain = ForSome r (λ t. (p : Node) → Contains plain.packages p → t (package_folder p.id) ≡ Some folder)

-- no package's id has more than 120 bytes
abbrev pub AreShort : Plain → Type 0
AreShort plain = (p : Node) → Contains plain.packages p → length p.id ≤ ID_LIMIT

-- a folder stands at a package's place, where the tree is told
abbrev pub HasFolder : Option Tree → Id → Type 0
HasFolder r id = ForSome r (λ t. t (package_folder id) ≡ Some folder)

-- The id is short, and the package has its folder.
pub record HasPlace (r : Option Tree) (id : Id) : Type 0 where
  pub short : length id ≤ ID_LIMIT
  pub stands : HasFolder r id

-- The packages of an install: those of the graph, each once, in byte order of ids, with its files in byte order and none with
-- a line feed in its path.
pub record ArePackages (r : Option Tree) (plain : Plain) (packages : List Package) : Type 0 where
  pub sound : AreSound packages
  pub direct : AreSoundLinks (direct_of plain)
  pub whole : AreWhole (direct_of plain) packages
  pub exact : IsPermutation (map (wanted plain.packages) plain.packages) (map outline packages)
  pub sorted : IsStrictlySortedBy (slice_cmp nat_cmp) (map package_id packages)
  pub made : All IsMade packages
  pub rising : (p : Package) → Contains packages p → AreRising p.files.items
  pub stand : IfSome r (λ t. FilesStand t packages)
  pub files : IfSome r (λ t. HaveFiles t packages)
