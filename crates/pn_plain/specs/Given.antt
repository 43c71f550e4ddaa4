-- What a plain graph is made from, beside what the registry shows.
use Rattle.std.specs.Prelude.{ℕ, Bool, List, [], ◌∷◌, Option, if◌then◌else◌, option_and_then, slice_get, codes}
use Rattle.std.specs.Str.{bytes_eq}
use Rattle.semver.specs.Parse.{Parts}
use Rattle.pn_spec.specs.declared.entry.CatalogEntry.{CatalogEntry}
use Rattle.pn_spec.specs.declared.want.Want.{Want}
use Rattle.pn_spec.specs.declared.want.Want.TheVariants as want
use Rattle.pn_published.specs.Choice.{chosen}
use Rattle.pn_published.specs.Shelves.{Shelf}
use Rattle.pn_published.specs.Tags.{tag_at}

-- a project by its name and version
pub record Named : Type 0 where
  pub name : Option (List ℕ)
  pub version : Option Parts

-- a package's name and version that the old lockfile has
abbrev pub Held : Type 0
Held = List ℕ × Parts

-- what the old lockfile holds, the projects in byte order of folders, the catalogs, and whether specifiers are built that
-- ask for projects or entries
pub record Given : Type 0 where
  pub held : List Held
  pub projects : List Named
  pub catalogs : List CatalogEntry
  pub spaces : Bool

-- the versions of a name that are held
abbrev pub held_of : List ℕ → List Held → List Parts
held_of name [] = []
held_of name (h ∷ hs) = if bytes_eq h.0 name then h.1 ∷ held_of name hs else held_of name hs

-- the place of a tag's version; `latest` is the shelf's, whether or not there is such a tag
abbrev pub tag_place : Shelf → List ℕ → Option ℕ
tag_place shelf tag = if bytes_eq tag (codes "latest") then shelf.latest else tag_at tag shelf.tags

-- the place of the version that is chosen; a tag means its own version alone
abbrev pub choice_of : Shelf → List Parts → Want → Option ℕ
choice_of shelf held (want.Range r) = chosen shelf.versions shelf.latest held (r ∷ [])
choice_of shelf held (want.Tag x) = tag_place shelf x

abbrev pub version_of : Shelf → List Parts → Want → Option Parts
version_of shelf held w = option_and_then (slice_get shelf.versions) (choice_of shelf held w)
