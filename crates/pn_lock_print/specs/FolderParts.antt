-- The parts of folders' texts, the first one first.
use Rattle.std.specs.Prelude.{ℕ, suc, ◌≢◌, ◌==◌, List, [], ◌∷◌, length, Option, Some, None, if◌then◌else◌}
use Rattle.pn_text.specs.Path.{Path}
use Rattle.pn_lock_print.specs.TargetTexts.{folder_path, turned}

-- one more byte before the first part
abbrev pub onto_first : ℕ → Path → Path
onto_first b [] = (b ∷ []) ∷ []
onto_first b (x ∷ p) = (b ∷ x) ∷ p

abbrev pub parts_of : List ℕ → Path
parts_of [] = [] ∷ []
parts_of (b ∷ bs) = if b == 47 then [] ∷ parts_of bs else onto_first b (parts_of bs)

-- the parts of what is left of a text
abbrev pub parts_left : Option (List ℕ) → Path
parts_left None = []
parts_left (Some text) = parts_of text

-- the parts of a project's folder
abbrev pub folder_parts : List ℕ → Path
folder_parts folder = turned (folder_path folder) []

-- how much is left
abbrev pub size_left : Option (List ℕ) → ℕ
size_left None = 0
size_left (Some text) = suc (length text)

-- the ways to two folders begin with different parts, or one has none
abbrev pub HaveParted : Path → Path → Type 0
HaveParted [] downs = Unit {0}
HaveParted (x ∷ ups) [] = Unit {0}
HaveParted (x ∷ ups) (y ∷ downs) = x ≢ y
