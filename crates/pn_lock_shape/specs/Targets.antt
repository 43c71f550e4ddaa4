-- What the texts of dependencies' targets lead to.
use Rattle.std.specs.Prelude.{ℕ, ◌==◌, not, ◌||◌, Bool, false, List, [], ◌∷◌, ◌++◌, drop, reverse, Option, Some, None, Ok, if◌then◌else◌, bytes_eq, codes, option_map}
use Rattle.pn_text.specs.Path.{Path, tail_of, text_below}
use Rattle.pn_deppath.specs.Cuts.{before, has_byte}
use Rattle.pn_deppath.specs.Paths.{begins, is_dep_path}
use Rattle.pn_lock_shape.specs.declared.drafts.Aim.{Aim}
use Rattle.pn_lock_shape.specs.declared.drafts.Aim.TheVariants as aim
use Rattle.pn_lock_shape.specs.Shapes.{Outcome, when}

abbrev pub link_mark : List ℕ
link_mark = codes "link:"

-- `@` stands behind the first byte and before the first `(`
abbrev pub is_whole : List ℕ → Bool
is_whole [] = false
is_whole (b ∷ rest) = has_byte 64 (before 40 rest)

-- the dep path that a text is under an alias: with the alias before it, where it has no name
abbrev pub whole_path : List ℕ → List ℕ → List ℕ
whole_path alias text = if is_whole text then text else alias ++ 64 ∷ text

-- the text of the folder with this path below the root, the last part first
abbrev pub folder_text : Path → List ℕ
folder_text [] = codes "."
folder_text (x ∷ p) = drop 1 (text_below (x ∷ p))

abbrev pub parent : Path → Option Path
parent [] = None
parent (x ∷ p) = Some p

-- where one part of a link leads; `.` and empty parts stay
abbrev pub step : List ℕ → Path → Option Path
step part p = if bytes_eq part (codes "..") then parent p else if bytes_eq part [] || bytes_eq part (codes ".") then Some p else Some (part ∷ p)

abbrev pub on_some : {A B : Type 0} → Option A → (A → Option B) → Option B
on_some None f = None
on_some (Some a) f = f a

-- where parts lead from a folder, the first part first; nowhere above the root
abbrev pub led : Path → List (List ℕ) → Option Path
led from [] = Some from
led from (x ∷ parts) = on_some (step x from) (λ p. led p parts)

-- a text that isn't empty and doesn't begin with a slash
abbrev pub is_relative : List ℕ → Bool
is_relative [] = false
is_relative (b ∷ rest) = not (b == 47)

-- the parts between a text's slashes, the first one first
abbrev pub parts_of : List ℕ → List (List ℕ)
parts_of text = reverse (tail_of text)

-- where a text of parts between slashes leads
abbrev pub walked : List ℕ → Path → Option Path
walked text from = led from (parts_of text)

-- the folder to which a relative path leads from a folder, which is itself walked from the root
abbrev pub folder_at : List ℕ → List ℕ → Option (List ℕ)
folder_at base text = if is_relative text then option_map folder_text (on_some (walked base []) (walked text)) else None

-- where a target's text leads from a folder, under an alias
abbrev pub aim_at : List ℕ → List ℕ → List ℕ → Aim
aim_at base alias text = if begins link_mark text then aim.Folder (folder_at base (drop 5 text)) text else aim.Path (whole_path alias text)

-- a target is a link or a dep path
abbrev pub target_in : Aim → Outcome Aim
target_in (aim.Folder folder text) = Ok (aim.Folder folder text)
target_in (aim.Path path) = when (is_dep_path path) (aim.Path path)
