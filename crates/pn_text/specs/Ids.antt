-- A version of a package by its text: the name, `@`, the version.
use Rattle.std.specs.Prelude.{◌≡◌, ℕ, ◌+◌, ◌<◌, ◌==◌, ◌&&◌, Bool, true, List, [], ◌∷◌, ◌++◌, length, take, drop, get_or, Option, Some, None, Result, Ok, Err, is_some, if◌then◌else◌}
use Rattle.semver.specs.Parse.{version_parts, Parts}
use Rattle.pn_text.specs.Name.{is_name}

abbrev pub id_text : List ℕ → List ℕ → List ℕ
id_text name version = name ++ 64 ∷ version

abbrev pub before_at : List ℕ → List ℕ
before_at [] = []
before_at (b ∷ bs) = if b == 64 then [] else b ∷ before_at bs

abbrev pub after_at : List ℕ → List ℕ
after_at [] = []
after_at (b ∷ bs) = if b == 64 then bs else after_at bs

-- what stands before the first `@` that doesn't begin the text
abbrev pub id_name : List ℕ → List ℕ
id_name [] = []
id_name (b ∷ bs) = b ∷ before_at bs

-- and what stands behind it
abbrev pub id_version : List ℕ → List ℕ
id_version [] = []
id_version (b ∷ bs) = after_at bs

abbrev pub ok_of : {T E : Type 0} → Result T E → Option T
ok_of (Ok v) = Some v
ok_of (Err e) = None

-- a version's numbers and texts, where the text is one
abbrev pub parts_text : List ℕ → Option Parts
parts_text text = ok_of (version_parts text)

abbrev pub is_version : List ℕ → Bool
is_version text = is_some (parts_text text)

-- whether a text is a package's id: a package name, `@`, and a SemVer version
abbrev pub is_id : List ℕ → Bool
is_id text = is_name (id_name text) && is_version (id_version text)

-- the id of a name with a text, where the text is a version
abbrev pub id_of : List ℕ → List ℕ → Option (List ℕ)
id_of name version = if is_version version then Some (id_text name version) else None

-- A name and a version are those of their id, and an id is the one of its name and version.
pub record IdLaw : Type 0 where
  pub name : (name version : List ℕ) → is_name name ≡ true → id_name (id_text name version) ≡ name
  pub version : (name version : List ℕ) → is_name name ≡ true → id_version (id_text name version) ≡ version
  pub text : (text : List ℕ) → is_id text ≡ true → id_text (id_name text) (id_version text) ≡ text

-- What an id keeps.
pub record IsIdOf (name : List ℕ) (parts : Parts) (text : List ℕ) : Type 0 where
  pub good : is_id text ≡ true
  pub name_is : name ≡ id_name text
  pub version_is : version_parts (id_version text) ≡ Ok parts

-- The `@` between the name and the version stands there.
pub record IsAtSign (text : List ℕ) (at : ℕ) : Type 0 where
  pub within : at < length text
  pub sign : get_or text at 0 ≡ 64
  pub name : take at text ≡ id_name text
  pub version : drop (at + 1) text ≡ id_version text
