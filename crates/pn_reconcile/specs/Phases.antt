-- What the parts of a reconciliation leave, each by the trees before and after it.
use Rattle.std.specs.Prelude.{◌≡◌, ◌⊎◌, ℕ, true, List, ◌∷◌, ◌++◌, Some, None}
use Rattle.std.specs.List.{Contains}
use Rattle.pn_text.specs.Path.{Path}
use Rattle.pn_fs.specs.Calls.{kind_of}
use Rattle.pn_fs.specs.Tree.{folder, file, Tree}
use Rattle.pn_fs.specs.Seen.{Seen as Shown}
use Rattle.pn_digest.specs.declared.planned.Planned.{Planned}
use Rattle.pn_digest.specs.declared.planned.Planned.TheVariants.{Folder}
use Rattle.pn_scan.specs.Managed.{Managed, is_within, marker_name, AreOurs}
use Rattle.pn_scan.specs.Scans.{Found, Scanned}
use Rattle.pn_scan.specs.Looks.{AreFolders}
use Rattle.pn_repair.specs.Stands.{StandsAs}
use Rattle.pn_repair.specs.Repairs.{fits, IsHalf}
use Rattle.pn_clear.specs.Items.{Item}
use Rattle.pn_reconcile.specs.Plans.{HasAll, IsPlanned}

-- what a scan says, by its two lists
abbrev pub scanned : List Managed → List Found → Scanned
scanned managed entries = record { managed = managed; entries = entries }

-- what is absent at or above a folder
abbrev pub IsNewAbove : Path → Tree → Path → Type 0
IsNewAbove p t q = (is_within q p ≡ true) × (t q ≡ None)

-- A folder stands there, and above it: those that were absent are new.
pub record IsDown (p : Path) (t u : Tree) : Type 0 where
  pub folders : (q : Path) → is_within q p ≡ true → u q ≡ Some folder
  pub others : (q : Path) → (u q ≡ t q) ⊎ IsNewAbove p t q

-- Some of those that were absent are new.
pub record IsHalfDown (p : Path) (t u : Tree) : Type 0 where
  pub folders : AreFolders u p
  pub others : (q : Path) → (u q ≡ t q) ⊎ IsNewAbove p t q

-- such paths alone were written
pub record TouchesAbove (p : Path) (t : Tree) (old new : Shown) : Type 0 where
  pub added : List Path
  pub touched : new.touched ≡ old.touched ++ added
  pub near : (q : Path) → Contains added q → IsNewAbove p t q

-- where a managed folder and its marker are made: its marker, and what is absent at or above it
abbrev pub BeginsAt : Managed → Tree → Path → Type 0
BeginsAt m t q = (q ≡ marker_name ∷ m.0) ⊎ IsNewAbove m.0 t q

-- the same of one of several
abbrev pub BeginsIn : List Managed → Tree → Path → Type 0
BeginsIn managed t q = (m : Managed) × Contains managed m × BeginsAt m t q

-- Each managed folder stands, with its marker, below folders.
pub record IsBegun (managed : List Managed) (t u : Tree) : Type 0 where
  pub folders : (m : Managed) (q : Path) → Contains managed m → is_within q m.0 ≡ true → u q ≡ Some folder
  pub markers : (m : Managed) → Contains managed m → u (marker_name ∷ m.0) ≡ Some (file m.1)
  pub others : (q : Path) → (u q ≡ t q) ⊎ BeginsIn managed t q

-- Some of that was done, and the folders are the installer's.
pub record IsHalfBegun (managed : List Managed) (t u : Tree) : Type 0 where
  pub ours : AreOurs u managed
  pub others : (q : Path) → (u q ≡ t q) ⊎ BeginsIn managed t q

-- What is planned can be made in order: nothing stands in its way, and what is absent has a planned folder before it.
pub record IsReady (plan : List Item) (t : Tree) : Type 0 where
  pub fitting : (e : Item) → Contains plan e → fits e.1 (kind_of (t e.0)) ≡ true
  pub parents : (x : List ℕ) (p : Path) (w : Planned) → Contains plan (x ∷ p, w) → t (x ∷ p) ≡ None → Contains plan (p, Folder)

-- what isn't planned is as it was
abbrev pub SparesUnplanned : List Item → Tree → Tree → Type 0
SparesUnplanned plan t u = (q : Path) → (IsPlanned plan q → ⊥) → u q ≡ t q

-- All that is planned stands.
pub record IsFilled (plan : List Item) (t u : Tree) : Type 0 where
  pub has : HasAll plan u
  pub others : SparesUnplanned plan t u

-- Of what is planned some stands, something half done may stand, and the rest is as it was.
pub record IsHalfFilled (plan : List Item) (t u : Tree) : Type 0 where
  pub half : (e : Item) → Contains plan e → StandsAs e.1 (u e.0) ⊎ IsHalf e.1 (t e.0) (u e.0)
  pub others : SparesUnplanned plan t u
