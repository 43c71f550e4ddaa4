-- Where a package stands in a registry.
use Rattle.std.specs.Prelude.{◌≡◌, ◌<◌, ◌∷◌, ℕ, List, length, codes, Option, MatchOption}
use Rattle.pn_text.specs.declared.limits.TheConstants.{PATH_LIMIT}
use Rattle.pn_text.specs.Path.{Path, path_text}
use Rattle.pn_text.specs.Ids.{id_name, id_version}
use Rattle.pn_text.specs.Name.{name_path}

-- a package's id as a text
abbrev pub Id : Type 0
Id = List ℕ

abbrev pub package_folder : Id → Path
package_folder id = id_version id ∷ name_path (id_name id)

abbrev pub manifest_path : Id → Path
manifest_path id = codes "package.json" ∷ package_folder id

-- this path, or none where its text is too long
abbrev pub IsPathOrLong : Path → Option Path → Type 0
IsPathOrLong p found = MatchOption found (PATH_LIMIT < length (path_text p)) (λ q. q ≡ p)
