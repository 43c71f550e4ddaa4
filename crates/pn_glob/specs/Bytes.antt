-- Bytes with a meaning in patterns, and the parts of a path.
use Rattle.std.specs.Prelude.{ℕ, ◌==◌, ◌||◌, Bool, false, List, [], ◌∷◌, if◌then◌else◌}

abbrev pub is_star : ℕ → Bool
is_star b = b == 42

-- any of `[`, `]`, `(`, `)`, `{` and `}`
abbrev pub is_bracket : ℕ → Bool
is_bracket b = (b == 91) || (b == 93) || (b == 40) || (b == 41) || (b == 123) || (b == 125)

-- a part that begins with `.`
abbrev pub is_hidden : List ℕ → Bool
is_hidden [] = false
is_hidden (b ∷ t) = b == 46

-- a byte before the first of these parts
abbrev pub onto : ℕ → List (List ℕ) → List (List ℕ)
onto b [] = (b ∷ []) ∷ []
onto b (x ∷ xs) = (b ∷ x) ∷ xs

-- the parts of a text between its slashes
abbrev pub parts : List ℕ → List (List ℕ)
parts [] = [] ∷ []
parts (b ∷ t) = if b == 47 then [] ∷ parts t else onto b (parts t)
