-- What a registry publishes under a name.
use Rattle.std.specs.Prelude.{◌≡◌, ◌≤◌, ◌<◌, ◌∷◌, ℕ, List, length, Option, Some}
use Rattle.std.specs.List.{Contains}
use Rattle.semver.specs.Parse.{Parts}
use Rattle.pn_text.specs.declared.limits.TheConstants.{ENTRY_LIMIT}
use Rattle.pn_text.specs.Name.{name_path}
use Rattle.pn_text.specs.Path.{Path}
use Rattle.pn_text.specs.Ids.{parts_text}
use Rattle.pn_fs.specs.Calls.{IsListing}
use Rattle.pn_fs.specs.Tree.{Tree, folder}
use Rattle.pn_published.specs.Versions.{IsRising}
use Rattle.pn_published.specs.Tags.{Said, Tagged, tags_name, IsTagsFile, IsBadTags, tags_of, latest_of}

-- the versions, which rise, the place of the latest, and the tags with the places of their versions
pub record Shelf : Type 0 where
  pub versions : List Parts
  pub latest : Option ℕ
  pub tags : List Tagged

abbrev pub tags_path : Path → Path
tags_path p = tags_name ∷ p

-- A folder below is called by this version.
pub record HasVersion (t : Tree) (p : Path) (v : Parts) : Type 0 where
  pub text : List ℕ
  pub is : parts_text text ≡ Some v
  pub stands : t (text ∷ p) ≡ Some folder

-- These are all the versions of a name's folder.
pub record AreVersions (t : Tree) (p : Path) (versions : List Parts) : Type 0 where
  pub rising : IsRising versions
  pub sound : (v : Parts) → Contains versions v → HasVersion t p v
  pub all : (v : Parts) → HasVersion t p v → Contains versions v

-- The folder has no more entries than are listed.
abbrev pub HasFew : Tree → Path → Type 0
HasFew t p = (names : List (List ℕ)) → IsListing t p names → length names ≤ ENTRY_LIMIT

-- A folder has more entries than are listed.
pub record HasMany (t : Tree) (p : Path) : Type 0 where
  pub names : List (List ℕ)
  pub listed : IsListing t p names
  pub many : ENTRY_LIMIT < length names

-- The folder has not too many entries, and its file of tags says none.
pub record HasBadTags (t : Tree) (p : Path) : Type 0 where
  pub few : HasFew t p
  pub bad : IsBadTags (t (tags_path p))

-- what is published where these are the versions, and the file of tags says this
abbrev pub shelf_with : List Parts → List Said → Shelf
shelf_with versions said = record { versions = versions; latest = latest_of versions (tags_of versions said); tags = tags_of versions said }

-- The latest version and the tags are those of some texts of tags.
pub record IsShelf (shelf : Shelf) : Type 0 where
  pub said : List Said
  pub is : shelf ≡ shelf_with shelf.versions said

-- The tree publishes this under the name. A name without a folder has no versions.
pub record IsPublished (t : Tree) (name : List ℕ) (shelf : Shelf) : Type 0 where
  pub few : HasFew t (name_path name)
  pub versions : AreVersions t (name_path name) shelf.versions
  pub said : List Said
  pub file : IsTagsFile (t (tags_path (name_path name))) said
  pub is : shelf ≡ shelf_with shelf.versions said
