-- The text of a relative path.
use Rattle.std.specs.Prelude.{ℕ, nat_lt, List, [], ◌∷◌, ◌++◌, length, drop, if◌then◌else◌}
use Rattle.pn_text.specs.declared.limits.TheConstants.{PATH_LIMIT}
use Rattle.pn_text.specs.Path.{Path, same_path, text_below, path_text}
use Rattle.pn_text.specs.Relative.{parent_of, dots}
use Rattle.pn_draft.specs.Drawing.{is_within}

-- the steps up from a folder to the nearest one that a path is at or below, and that one
abbrev pub ups : Path → Path → Path
ups [] to = []
ups (x ∷ p) to = if is_within (x ∷ p) to then [] else x ∷ ups p to

abbrev pub base_of : Path → Path → Path
base_of [] to = []
base_of (x ∷ p) to = if is_within (x ∷ p) to then x ∷ p else base_of p to

-- the steps down to a path from a folder above it
abbrev pub downs : Path → Path → Path
downs base [] = []
downs base (y ∷ q) = if same_path (y ∷ q) base then [] else y ∷ downs base q

abbrev pub steps_text : Path → List ℕ
steps_text [] = 46 ∷ []
steps_text (x ∷ p) = drop 1 (text_below (x ∷ p))

-- up to the nearest folder above both, and then down
abbrev pub relative_text : Path → Path → List ℕ
relative_text from to = steps_text (downs (base_of from to) to ++ dots (length (ups from to)))

-- the text of a link at a place, from its folder to where it leads; none where the place's text is too long
abbrev pub link_text : Path → Path → List ℕ
link_text place to = if nat_lt PATH_LIMIT (length (path_text place)) then [] else relative_text (parent_of place) to
