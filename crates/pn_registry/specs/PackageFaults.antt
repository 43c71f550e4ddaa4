-- Why a package has no manifest.
use Rattle.std.specs.Prelude.{◌≡◌, ◌≤◌, ◌<◌, ℕ, List, Option, Some, IfSome, length}
use Rattle.serde_json.specs.Data.{Data}
use Rattle.pn_text.specs.Causes.{Rose}
use Rattle.pn_fs.specs.Tree.{Entry, Tree, file}
use Rattle.pn_fs.specs.Seen.{Seen}
use Rattle.pn_read.specs.Small.{IsNoFile, IsFileOf}
use Rattle.pn_manifest.specs.Fields.{Spot}
use Rattle.pn_manifest.specs.Text.{IsObjectText}
use Rattle.pn_manifest.specs.declared.fault.ManifestWhy.{ManifestWhy}
use Rattle.pn_manifest.specs.declared.fault.ManifestWhy.TheVariants.{Missing, NotJson, BadField}
use Rattle.pn_registry.specs.Places.{Id, manifest_path}
use Rattle.pn_registry.specs.Package.{text_limit, first_wrong_of, IsText}
use Rattle.pn_registry.specs.declared.package.PackageFault.{PackageFault}
use Rattle.pn_registry.specs.declared.package.PackageFault.TheVariants.{Wrong, TooLarge, Fault, Memory}

-- A file of at most so many bytes has the text of no JSON object.
pub record IsNoText (e : Option Entry) : Type 0 where
  pub bytes : List ℕ
  pub is : e ≡ Some (file bytes)
  pub short : length bytes ≤ text_limit
  pub none : (d : Data) → IsObjectText bytes d → ⊥

-- This is the first wrong field and key of the object in the file.
pub record IsWrongText (id : Id) (e : Option Entry) (f k : List ℕ) : Type 0 where
  pub value : Data
  pub text : IsText e value
  pub wrong : first_wrong_of id value ≡ Some (f, k)

-- what is wrong with the file of a package's manifest
abbrev pub WrongFile : Id → Option Entry → ManifestWhy → Type 0
WrongFile id e Missing = IsNoFile e
WrongFile id e NotJson = IsNoText e
WrongFile id e (BadField f k) = IsWrongText id e f k

-- what the tree shows against the manifest
abbrev pub PackageCause : Id → Tree → PackageFault → Type 0
PackageCause id t (Wrong why) = WrongFile id (t (manifest_path id)) why
PackageCause id t (TooLarge n) = (text_limit < n) × IsFileOf n (t (manifest_path id))
PackageCause id t Fault = ⊥
PackageCause id t Memory = ⊥

abbrev pub PackageRefused : Id → Seen → Seen → PackageFault → Type 0
PackageRefused id old new (Wrong why) = IfSome old.tree (λ t. PackageCause id t (Wrong why))
PackageRefused id old new (TooLarge n) = (text_limit < n) × IfSome old.tree (λ t. PackageCause id t (TooLarge n))
PackageRefused id old new Fault = Rose old.faults new.faults
PackageRefused id old new Memory = Unit {0}

-- what is wrong with the file's bytes
abbrev pub WrongText : Id → List ℕ → ManifestWhy → Type 0
WrongText id bytes Missing = ⊥
WrongText id bytes NotJson = (d : Data) → IsObjectText bytes d → ⊥
WrongText id bytes (BadField f k) = (d : Data) × IsObjectText bytes d × (first_wrong_of id d ≡ Some (f, k))

-- the same, or there was no memory
abbrev pub TextRefused : Id → List ℕ → PackageFault → Type 0
TextRefused id bytes (Wrong why) = WrongText id bytes why
TextRefused id bytes (TooLarge n) = ⊥
TextRefused id bytes Fault = ⊥
TextRefused id bytes Memory = Unit {0}

-- a field states another name or version, or there was no memory
abbrev pub IsOther : Option Spot → PackageFault → Type 0
IsOther spot (Wrong Missing) = ⊥
IsOther spot (Wrong NotJson) = ⊥
IsOther spot (Wrong (BadField f k)) = spot ≡ Some (f, k)
IsOther spot (TooLarge n) = ⊥
IsOther spot Fault = ⊥
IsOther spot Memory = Unit {0}
