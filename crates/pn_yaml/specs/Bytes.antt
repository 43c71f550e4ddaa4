-- Bytes of a line.
use Rattle.std.specs.Prelude.{ℕ, suc, ◌==◌, ◌&&◌, ◌||◌, Bool, true, false, List, [], ◌∷◌, if◌then◌else◌}

abbrev pub space : ℕ
space = 32

abbrev pub starts : ℕ → List ℕ → Bool
starts b [] = false
starts b (c ∷ rest) = c == b

abbrev pub is_empty : List ℕ → Bool
is_empty [] = true
is_empty (b ∷ rest) = false

abbrev pub tail_of : List ℕ → List ℕ
tail_of [] = []
tail_of (b ∷ rest) = rest

-- how many spaces a text begins with
abbrev pub indentation : List ℕ → ℕ
indentation [] = 0
indentation (b ∷ rest) = if b == space then suc (indentation rest) else 0

-- a text without the spaces that it begins with
abbrev pub unindented : List ℕ → List ℕ
unindented [] = []
unindented (b ∷ rest) = if b == space then unindented rest else b ∷ rest

abbrev pub is_blank : List ℕ → Bool
is_blank text = is_empty (unindented text)

-- a text without the spaces at its end
abbrev pub trimmed : List ℕ → List ℕ
trimmed [] = []
trimmed (b ∷ rest) = if is_blank (b ∷ rest) then [] else b ∷ trimmed rest

-- the text begins with a space and `#`, where a comment begins
abbrev pub is_comment : List ℕ → Bool
is_comment [] = false
is_comment (b ∷ rest) = (b == space) && starts 35 rest

-- a word ends here: the text is empty or begins with a space
abbrev pub ends_word : List ℕ → Bool
ends_word text = is_empty text || starts space text

-- nothing but spaces and a comment behind them
abbrev pub is_bare : List ℕ → Bool
is_bare text = is_blank text || (starts space text && starts 35 (unindented text))
