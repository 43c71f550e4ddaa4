-- Where a package stands in the virtual store.
use Rattle.std.specs.Prelude.{ℕ, List, ◌∷◌, ◌++◌, ◌==◌, map, if◌then◌else◌, codes}
use Rattle.pn_text.specs.Ids.{id_name}
use Rattle.pn_text.specs.Path.{Path}
use Rattle.pn_text.specs.Name.{name_path, modules}
use Rattle.pn_package.specs.Links.{Id}

-- the virtual store of a `node_modules`
abbrev pub store_of : Path → Path
store_of top = codes ".pnpm" ∷ top

-- `+` in place of a slash
abbrev pub plus_for_slash : ℕ → ℕ
plus_for_slash b = if b == 47 then 43 else b

-- the name of the package's folder in the virtual store
abbrev pub dir_name : Id → List ℕ
dir_name id = map plus_for_slash id

-- the folder that the package and its links stand in
abbrev pub beside_of : Path → Id → Path
beside_of top id = modules ∷ dir_name id ∷ store_of top

-- the package folder
abbrev pub home_of : Path → Id → Path
home_of top id = name_path (id_name id) ++ beside_of top id
