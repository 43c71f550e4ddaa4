-- The names of a folder's entries, in the texts of their paths.
use Rattle.std.specs.Prelude.{ℕ, ◌==◌, List, [], ◌∷◌, Option, Some, None, if◌then◌else◌}
use Rattle.pn_text.specs.Path.{is_part}

-- what a text has behind a front, where that is one part of a path
abbrev pub name_after : List ℕ → List ℕ → Option (List ℕ)
name_after [] text = if is_part text then Some text else None
name_after (a ∷ front) [] = None
name_after (a ∷ front) (b ∷ text) = if a == b then name_after front text else None
