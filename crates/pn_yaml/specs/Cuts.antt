-- Where a text may be cut in two texts.
use Rattle.std.specs.Prelude.{ℕ, nat_lt, Bool, false, ◌||◌, List, [], ◌∷◌}
use Rattle.pn_yaml.specs.Bytes.{is_empty}

-- the text begins with an ASCII byte
abbrev pub begins_ascii : List ℕ → Bool
begins_ascii [] = false
begins_ascii (b ∷ rest) = nat_lt b 128

-- a text may be cut before these bytes: they begin with an ASCII byte, or are none
abbrev pub is_cut : List ℕ → Bool
is_cut text = is_empty text || begins_ascii text
