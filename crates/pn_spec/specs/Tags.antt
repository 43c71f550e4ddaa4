-- The bytes of tags and of catalogs' names.
use Rattle.std.specs.Prelude.{ℕ, ◌&&◌, ◌||◌, nat_le, Bool, false, List, [], ◌∷◌, codes}
use Rattle.std.specs.List.{list_all}
use Rattle.pn_text.specs.Name.{is_name_byte}

abbrev pub is_letter : ℕ → Bool
is_letter b = (nat_le 97 b && nat_le b 122) || (nat_le 65 b && nat_le b 90)

-- letters, digits, `-`, `.` and `_`, the first a letter
abbrev pub is_tag : List ℕ → Bool
is_tag [] = false
is_tag (b ∷ t) = is_letter b && list_all is_name_byte t

-- letters, digits, `-`, `.` and `_`, or nothing
abbrev pub is_catalog : List ℕ → Bool
is_catalog t = list_all is_name_byte t

-- the catalog that is meant
abbrev pub or_default : List ℕ → List ℕ
or_default [] = codes "default"
or_default (b ∷ t) = b ∷ t
