-- What a package's manifest says.
use Rattle.std.specs.Prelude.{◌≡◌, ◌≤◌, ℕ, List, [], Bool, false, Option, Some, None, codes, length, if◌then◌else◌}
use Rattle.std.specs.Str.{bytes_eq}
use Rattle.serde_json.specs.Data.{Data}
use Rattle.semver.specs.Parse.{Parts}
use Rattle.semver.specs.Identifiers.{parts_text}
use Rattle.pn_text.specs.declared.limits.TheConstants.{TEXT_LIMIT}
use Rattle.pn_text.specs.Ids.{id_name, id_version}
use Rattle.pn_fs.specs.Tree.{Entry, file}
use Rattle.pn_manifest.specs.Fields.{Spot, or_else, first_wrong, name_of, version_of, said}
use Rattle.pn_manifest.specs.Text.{IsObjectText}
use Rattle.pn_manifest.specs.Says.{said_of}
use Rattle.pn_manifest.specs.declared.manifest.Manifest.{Manifest}
use Rattle.pn_registry.specs.Places.{Id}

abbrev pub text_limit : ℕ
text_limit = TEXT_LIMIT

-- nothing wrong, or this field
abbrev pub unless : Bool → List ℕ → Option Spot
unless right key = if right then None else Some (key, [])

-- whether a field has this text
abbrev pub states : Option (List ℕ) → List ℕ → Bool
states None text = false
states (Some own) text = bytes_eq own text

-- `name` where it states another name or none, else `version` likewise
abbrev pub other_of : Id → Data → Option Spot
other_of id d = or_else (unless (states (name_of d) (id_name id)) (codes "name")) (unless (states (version_of d) (id_version id)) (codes "version"))

-- the first wrong field and key of a package's manifest
abbrev pub first_wrong_of : Id → Data → Option Spot
first_wrong_of id d = or_else (first_wrong d) (other_of id d)

-- whether a version has this text
abbrev pub has_text : Option Parts → List ℕ → Bool
has_text None text = false
has_text (Some p) text = bytes_eq (parts_text p) text

-- the same by what was read
abbrev pub stated_other : Id → Option (List ℕ) → Option Parts → Option Spot
stated_other id name version = or_else (unless (states name (id_name id)) (codes "name")) (unless (has_text version (id_version id)) (codes "version"))

-- The object is right for the package, and the manifest has what it says.
pub record IsRead (id : Id) (d : Data) (m : Manifest) : Type 0 where
  pub right : first_wrong_of id d ≡ None
  pub says : said_of m ≡ said d

-- A file of at most so many bytes has the text of this object.
pub record IsText (e : Option Entry) (d : Data) : Type 0 where
  pub bytes : List ℕ
  pub is : e ≡ Some (file bytes)
  pub short : length bytes ≤ text_limit
  pub text : IsObjectText bytes d

-- The manifest is that of the file.
pub record IsFound (id : Id) (e : Option Entry) (m : Manifest) : Type 0 where
  pub value : Data
  pub text : IsText e value
  pub read : IsRead id value m
