-- The texts of groups.
use Rattle.std.specs.Prelude.{ℕ, nat_lt, List, [], ◌∷◌, ◌++◌, length, map, take, codes, if◌then◌else◌}
use Rattle.hex.specs.Hex.{encode_lower}
use Rattle.sha2.specs.Sha256.{sha256}
use Rattle.pn_text.specs.Name.{is_name_byte}

-- ASCII letters, digits, `-`, `.` and `_` stay
abbrev pub folder_byte : ℕ → ℕ
folder_byte b = if is_name_byte b then b else 43

-- a project that is a peer: `<peer>@link:<folder>`
abbrev pub project_text : List ℕ → List ℕ → List ℕ
project_text name folder = name ++ (codes "@link:" ++ map folder_byte folder)

-- groups in parentheses, one after the other
abbrev pub joined : List (List ℕ) → List ℕ
joined [] = []
joined (g ∷ gs) = 40 ∷ (g ++ 41 ∷ joined gs)

-- more than 1,000 bytes become one group of digits of their SHA-256
unfoldable pub shortened : List ℕ → List ℕ
shortened groups = if nat_lt 1000 (length groups) then 40 ∷ (take 32 (encode_lower (sha256 groups)) ++ 41 ∷ []) else groups
