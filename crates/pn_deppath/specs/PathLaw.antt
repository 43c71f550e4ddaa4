-- What dep paths are made of.
use Rattle.std.specs.Prelude.{◌≡◌, ◌++◌, ℕ, List, true, false}
use Rattle.std.specs.List.{list_all}
use Rattle.pn_text.specs.Ids.{id_text, is_version}
use Rattle.pn_text.specs.Name.{is_name}
use Rattle.pn_deppath.specs.Folders.{is_ascii}
use Rattle.pn_deppath.specs.Paths.{are_groups, holds, id_part, is_dep_path, patch_mark}

-- A name, a version and groups that make up a dep path.
pub record IsCut (path : List ℕ) : Type 0 where
  pub name : List ℕ
  pub version : List ℕ
  pub groups : List ℕ
  pub named : is_name name ≡ true
  pub versioned : is_version version ≡ true
  pub grouped : are_groups 0 groups ≡ true
  pub id : id_part path ≡ id_text name version
  pub whole : path ≡ id_text name version ++ groups

-- Each dep path is made of a name, a version and groups; each of these make one; and its bytes are below 128.
pub record PathLaw : Type 0 where
  pub cut : (path : List ℕ) → is_dep_path path ≡ true → IsCut path
  pub made : (name version groups : List ℕ) → is_name name ≡ true → is_version version ≡ true → are_groups 0 groups ≡ true → holds patch_mark groups ≡ false
      → is_dep_path (id_text name version ++ groups) ≡ true
  pub ascii : (path : List ℕ) → is_dep_path path ≡ true → list_all is_ascii path ≡ true
