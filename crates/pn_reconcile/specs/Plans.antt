-- What a plan of managed folders makes of a tree.
use Rattle.std.specs.Prelude.{◌++◌, ◌≡◌, ◌≢◌, ◌⊎◌, ℕ, true, List, ◌∷◌, Option, Some, None}
use Rattle.std.specs.List.{Contains}
use Rattle.std.specs.Option.{ForSome, MatchOption}
use Rattle.pn_text.specs.Path.{Path}
use Rattle.pn_fs.specs.Tree.{Entry, folder, Tree}
use Rattle.pn_digest.specs.declared.planned.Planned.{Planned}
use Rattle.pn_digest.specs.declared.planned.Planned.TheVariants.{Folder, Bytes}
use Rattle.pn_scan.specs.Managed.{Managed, is_managed, is_above, marker_name, AreOurs}
use Rattle.pn_repair.specs.Stands.{StandsAs}
use Rattle.pn_clear.specs.Items.{Item}

-- The plan is of these folders: each is planned, with its marker, and whatever is planned is at or below one of them, in a
-- planned folder if below.
pub record IsRooted (managed : List Managed) (plan : List Item) : Type 0 where
  pub tops : (m : Managed) → Contains managed m → Contains plan (m.0, Folder)
  pub markers : (m : Managed) → Contains managed m → Contains plan (marker_name ∷ m.0, Bytes m.1)
  pub within : (e : Item) → Contains plan e → is_managed managed e.0 ≡ true
  pub parents : (x : List ℕ) (p : Path) (w : Planned) → Contains plan (x ∷ p, w) → is_managed managed p ≡ true → Contains plan (p, Folder)

abbrev pub IsPlanned : List Item → Path → Type 0
IsPlanned plan p = (w : Planned) × Contains plan (p, w)

-- all that is planned stands
abbrev pub HasAll : List Item → Tree → Type 0
HasAll plan u = (e : Item) → Contains plan e → StandsAs e.1 (u e.0)

-- A tree has what is planned, and nothing else at and below the managed folders.
pub record HasPlan (managed : List Managed) (plan : List Item) (u : Tree) : Type 0 where
  pub planned : HasAll plan u
  pub only : (m : Managed) (r : Path) (e : Entry) → Contains managed m → u (r ++ m.0) ≡ Some e → IsPlanned plan (r ++ m.0)

-- what may be written: what is planned, what stood at or below a managed folder, and what was absent above one
abbrev pub MayDiffer : List Managed → List Item → Tree → Path → Type 0
MayDiffer managed plan t q = IsPlanned plan q ⊎ (((is_managed managed q ≡ true) × (t q ≢ None)) ⊎ ((is_above managed q ≡ true) × (t q ≡ None)))

-- each other path is as it was
abbrev pub SparesOthers : List Managed → List Item → Tree → Tree → Type 0
SparesOthers managed plan t u = (q : Path) → (u q ≡ t q) ⊎ MayDiffer managed plan t q

-- The plan stands at and below the managed folders, folders stand above them, and all else is as it was.
pub record IsReconciled (managed : List Managed) (plan : List Item) (t u : Tree) : Type 0 where
  pub has : HasPlan managed plan u
  pub above : (q : Path) → is_above managed q ≡ true → u q ≡ Some folder
  pub others : SparesOthers managed plan t u

-- what stood as planned stands as it did
abbrev pub KeepsRight : List Item → Tree → Tree → Type 0
KeepsRight plan t u = (e : Item) → Contains plan e → StandsAs e.1 (t e.0) → u e.0 ≡ t e.0

-- the same, whatever was answered
abbrev pub KeepsAllRight : List Item → Option Tree → Option Tree → Type 0
KeepsAllRight plan old new = ForSome old (λ t. ForSome new (KeepsRight plan t))

-- Some of it may stand: the managed folders are the installer's still, and all else is as it was.
pub record IsHalfReconciled (managed : List Managed) (plan : List Item) (t u : Tree) : Type 0 where
  pub ours : AreOurs u managed
  pub others : SparesOthers managed plan t u

-- After Ok: where the tree was told, the new one is, and is this to it.
abbrev pub Made : (Tree → Tree → Type 0) → Option Tree → Option Tree → Type 0
Made Is old new = MatchOption old (new ≡ None) (λ t. (u : Tree) × (new ≡ Some u) × Is t u)

-- After a refusal, where nothing is said of a tree that wasn't told.
abbrev pub HalfMade : (Tree → Tree → Type 0) → Option Tree → Option Tree → Type 0
HalfMade Is old new = ForSome old (λ t. (u : Tree) × (new ≡ Some u) × Is t u)

abbrev pub Reconciled : List Managed → List Item → Option Tree → Option Tree → Type 0
Reconciled managed plan old new = Made (IsReconciled managed plan) old new

abbrev pub HalfReconciled : List Managed → List Item → Option Tree → Option Tree → Type 0
HalfReconciled managed plan old new = HalfMade (IsHalfReconciled managed plan) old new
