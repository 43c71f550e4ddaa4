-- Texts before and behind a byte.
use Rattle.std.specs.Prelude.{ℕ, ◌==◌, Bool, List, [], ◌∷◌, if◌then◌else◌}
use Rattle.std.specs.List.{list_any}

-- the text before the first such byte, or the whole one
abbrev pub before : ℕ → List ℕ → List ℕ
before b [] = []
before b (c ∷ rest) = if c == b then [] else c ∷ before b rest

-- the text from the first such byte on
abbrev pub from : ℕ → List ℕ → List ℕ
from b [] = []
from b (c ∷ rest) = if c == b then c ∷ rest else from b rest

abbrev pub has_byte : ℕ → List ℕ → Bool
has_byte b text = list_any (λ c. c == b) text
