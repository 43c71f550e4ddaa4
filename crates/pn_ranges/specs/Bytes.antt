-- The bytes of ranges, and numbers in decimal digits.
use Rattle.std.specs.Prelude.{ℕ, ◌+◌, ◌-◌, ◌*◌, ◌==◌, ◌&&◌, ◌||◌, not, nat_le, Bool, false, List, [], ◌∷◌, if◌then◌else◌}
use Rattle.semver.specs.Grammar.{is_identifier_byte}

-- a space or a tab
abbrev pub is_space : ℕ → Bool
is_space b = (b == 32) || (b == 9)

-- `v` or `=`, which may stand before a version
abbrev pub is_lead : ℕ → Bool
is_lead b = (b == 118) || (b == 61)

-- `x`, `X` or `*`
abbrev pub is_wild : ℕ → Bool
is_wild b = (b == 120) || (b == 88) || (b == 42)

abbrev pub is_digit : ℕ → Bool
is_digit b = nat_le 48 b && nat_le b 57

-- a byte that begins a part: a digit or a wildcard
abbrev pub is_open : ℕ → Bool
is_open b = is_digit b || is_wild b

-- a space, a tab or a `|`: none of them stands in a version
abbrev pub is_stop : ℕ → Bool
is_stop b = is_space b || (b == 124)

abbrev pub is_body : ℕ → Bool
is_body b = not (is_stop b)

abbrev pub starts_with : (ℕ → Bool) → List ℕ → Bool
starts_with test [] = false
starts_with test (b ∷ rest) = test b

-- the value of the digits that a text begins with, behind digits of the value n
unfoldable pub number_from : ℕ → List ℕ → ℕ
number_from n [] = n
number_from n (b ∷ rest) = if is_digit b then number_from (n * 10 + (b - 48)) rest else n

-- the value of the digits that a text begins with
abbrev pub number_at : List ℕ → ℕ
number_at text = number_from 0 text

-- the bytes at the front of a text for which a test holds
abbrev pub front_of : (ℕ → Bool) → List ℕ → List ℕ
front_of test [] = []
front_of test (b ∷ rest) = if test b then b ∷ front_of test rest else []

-- the text behind them
abbrev pub behind : (ℕ → Bool) → List ℕ → List ℕ
behind test [] = []
behind test (b ∷ rest) = if test b then behind test rest else b ∷ rest

-- a byte of identifiers joined by dots
abbrev pub is_word : ℕ → Bool
is_word b = is_identifier_byte b || (b == 46)
