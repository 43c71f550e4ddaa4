-- The names that a run looks for.
use Rattle.std.specs.Prelude.{ℕ, List, ◌∷◌, codes}
use Rattle.pn_text.specs.Path.{Path}

abbrev pub package_name : List ℕ
package_name = codes "package.json"

abbrev pub lock_name : List ℕ
lock_name = codes "pnpm-lock.yaml"

abbrev pub modules_name : List ℕ
modules_name = codes "node_modules"

-- the managed folder
abbrev pub modules_path : Path → Path
modules_path place = modules_name ∷ place
