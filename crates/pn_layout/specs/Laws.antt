-- What is known of the layout of an install.
use Rattle.std.specs.Prelude.{◌≡◌, ◌≢◌, ℕ, true, false, List, [], ◌∷◌, ◌++◌, map, Some}
use Rattle.std.specs.List.{AllZip, Contains}
use Rattle.pn_text.specs.Ids.{id_name}
use Rattle.pn_text.specs.Path.{Path}
use Rattle.pn_text.specs.Name.{is_name, name_path, modules}
use Rattle.pn_fs.specs.Tree.{folder, Tree, IsTree}
use Rattle.pn_digest.specs.Listing.{Entry}
use Rattle.pn_digest.specs.declared.planned.Planned.{Planned}
use Rattle.pn_digest.specs.declared.planned.Planned.TheVariants.{Stored}
use Rattle.pn_node.specs.Find.{find}
use Rattle.pn_node.specs.Finds.{ends_in_modules}
use Rattle.pn_repair.specs.Stands.{StandsAs}
use Rattle.pn_package.specs.Links.{Pair}
use Rattle.pn_package.specs.declared.packages.Package.{Package}
use Rattle.pn_package.specs.Sound.{contents, AreSound, AreSoundLinks, AreWhole}
use Rattle.pn_tree.specs.Laws.{AreEntries, HasPlan}
use Rattle.pn_tree.specs.Refusals.{LayoutRefused}
use Rattle.pn_tree.specs.declared.fault.LayoutFault.TheVariants.{TooLong}
use Rattle.pn_layout.specs.Store.{store_of, home_of}
use Rattle.pn_layout.specs.Listed.{AreOfPackages}
use Rattle.pn_layout.specs.Layout.{marker_text, layout_of, Fits}

-- The tree has the plan of an install, and nothing else at and below the managed folder.
pub record IsInstalled (u : Tree) (top : Path) (direct : List Pair) (packages : List Package) (listings : List (List Entry)) : Type 0 where
  pub plan : List (Path × Planned)
  pub entries : AreEntries (layout_of top direct packages listings) plan
  pub has : HasPlan ((top, marker_text) ∷ []) plan u

-- What a folder of an installed package finds.
pub record FindsOwn (u : Tree) (top : Path) (p : Package) (from : Path) : Type 0 where
  -- its own name finds its package folder
  pub own : find u from (name_path (id_name p.id)) ≡ Some (home_of top p.id)
  -- an alias finds the package folder of the id that it leads to
  pub dependency : (l : Pair) → Contains p.links l → find u from (name_path l.0) ≡ Some (home_of top l.1)
  -- any other package name finds what the virtual store's folder finds
  pub other : (x : List ℕ) → is_name x ≡ true → x ≢ id_name p.id → ((l : Pair) → Contains p.links l → l.0 ≢ x) → find u from (name_path x) ≡ find u (store_of top) (name_path x)

-- What the folders of an install find: each folder at or below a package folder, and the folder that
-- holds the `node_modules`, other than another `node_modules`, by the project's links.
pub record FindsAll (u : Tree) (top : Path) (direct : List Pair) (packages : List Package) : Type 0 where
  pub inside : (p : Package) (inner : Path) → Contains packages p → u (inner ++ home_of top p.id) ≡ Some folder → FindsOwn u top p (inner ++ home_of top p.id)
  pub project : (place : Path) (l : Pair) → top ≡ modules ∷ place → ends_in_modules place ≡ false → Contains direct l → find u place (name_path l.0) ≡ Some (home_of top l.1)

-- In an installed tree each package finds itself and what its links lead to, and so does the project.
abbrev pub FindsLaw : Type 0
FindsLaw = (u : Tree) (top : Path) (direct : List Pair) (packages : List Package) (listings : List (List Entry)) → IsTree u → AreSoundLinks direct → AreSound packages
    → AreOfPackages packages listings → AreWhole direct packages → IsInstalled u top direct packages listings → FindsAll u top direct packages

-- each listed file stands below the package folder, with bytes of that SHA-512
abbrev pub HoldsFiles : Tree → Path → Package → List Entry → Type 0
HoldsFiles u top p es = (f : Path) (d : List ℕ) → Contains es (f, d) → StandsAs (Stored d) (u (f ++ home_of top p.id))

-- In an installed tree the files of each package stand.
abbrev pub HeldLaw : Type 0
HeldLaw = (u : Tree) (top : Path) (direct : List Pair) (packages : List Package) (listings : List (List Entry)) → AreOfPackages packages listings → IsInstalled u top direct packages listings
    → AllZip (HoldsFiles u top) packages listings

-- The layout is settled by what the packages have.
abbrev pub SameLaw : Type 0
SameLaw = (top : Path) (direct : List Pair) (packages others : List Package) (listings : List (List Entry)) → map contents packages ≡ map contents others
    → layout_of top direct packages listings ≡ layout_of top direct others listings

-- Where no path is too long, none is with other listings of the same packages.
abbrev pub PassedLaw : Type 0
PassedLaw = (top : Path) (direct : List Pair) (packages others : List Package) (listings relisted : List (List Entry)) (size : ℕ) → map contents packages ≡ map contents others
    → AreOfPackages packages listings → AreOfPackages others relisted → Fits (layout_of top direct packages listings) → LayoutRefused (layout_of top direct others relisted) (TooLong size) → ⊥

-- The length that is told is settled by what the packages have, whatever their files' digests.
abbrev pub CauseLaw : Type 0
CauseLaw = (top : Path) (direct : List Pair) (packages others : List Package) (listings relisted : List (List Entry)) (size other : ℕ) → map contents packages ≡ map contents others
    → AreOfPackages packages listings → AreOfPackages others relisted → LayoutRefused (layout_of top direct packages listings) (TooLong size)
    → LayoutRefused (layout_of top direct others relisted) (TooLong other) → size ≡ other
