-- The virtual store's folder.
use Rattle.std.specs.Prelude.{ℕ, List, [], ◌∷◌, ◌==◌, ◌||◌, if◌then◌else◌}
use Rattle.std.specs.Str.{bytes_eq}
use Rattle.pn_text.specs.Path.{Path, tail_of}
use Rattle.pn_text.specs.Relative.{parent_of}

-- one part further: an empty one and `.` stay, and `..` leads to the parent, from `/` to `/`
abbrev pub led : List ℕ → Path → Path
led x p = if bytes_eq x [] || bytes_eq x (46 ∷ []) then p else (if bytes_eq x (46 ∷ 46 ∷ []) then parent_of p else x ∷ p)

-- parts, the last one first, from a folder on
abbrev pub led_by : Path → Path → Path
led_by from [] = from
led_by from (x ∷ p) = led x (led_by from p)

-- a text that begins with a slash counts from `/`
abbrev pub start_of : List ℕ → Path → Path
start_of [] root = root
start_of (b ∷ t) root = if b == 47 then [] else root

-- where a text leads from a folder
abbrev pub resolved : List ℕ → Path → Path
resolved text root = led_by (start_of text root) (tail_of text)
