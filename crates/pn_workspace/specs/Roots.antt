-- The root of a workspace.
use Rattle.std.specs.Prelude.{List, ℕ, [], ◌∷◌, Bool, true, false, Option, Some, None, if◌then◌else◌, codes}
use Rattle.pn_text.specs.Path.{Path}
use Rattle.pn_fs.specs.Tree.{Entry, folder, file, link, Tree}

abbrev pub settings_name : List ℕ
settings_name = codes "pnpm-workspace.yaml"

-- the path of a folder's workspace file
abbrev pub settings_path : Path → Path
settings_path p = settings_name ∷ p

abbrev pub is_file : Option Entry → Bool
is_file None = false
is_file (Some folder) = false
is_file (Some (file bytes)) = true
is_file (Some (link text)) = false

-- whether a folder has a workspace file; an entry of that name that is no file counts as none
abbrev pub has_settings : Tree → Path → Bool
has_settings t p = is_file (t (settings_path p))

-- the nearest of a folder and those above it that has one
abbrev pub nearest : Tree → Path → Option Path
nearest t [] = if has_settings t [] then Some [] else None
nearest t (x ∷ p) = if has_settings t (x ∷ p) then Some (x ∷ p) else nearest t p

abbrev pub or_here : Path → Option Path → Path
or_here p None = p
or_here p (Some q) = q

-- the root: that folder, or the first one where there is none
abbrev pub root_of : Tree → Path → Path
root_of t p = or_here p (nearest t p)
