-- The ends and the parts of a specifier's text.
use Rattle.std.specs.Prelude.{◌≡◌, ◌≢◌, ℕ, ◌==◌, Bool, false, if◌then◌else◌, List, [], ◌∷◌, ◌++◌}
use Rattle.std.specs.List.{list_any}
use Rattle.pn_ranges.specs.Bytes.{behind, is_space}

-- one more byte in front of a text that ends with no space
abbrev pub before_trimmed : ℕ → List ℕ → List ℕ
before_trimmed b [] = if is_space b then [] else b ∷ []
before_trimmed b (c ∷ t) = b ∷ c ∷ t

-- the text without the spaces and tabs at its end
abbrev pub trim_end : List ℕ → List ℕ
trim_end [] = []
trim_end (b ∷ t) = before_trimmed b (trim_end t)

-- the text without the spaces and tabs at both ends
abbrev pub trimmed : List ℕ → List ℕ
trimmed text = trim_end (behind is_space text)

abbrev pub has_at : List ℕ → Bool
has_at t = list_any (λ b. b == 64) t

-- a text parted at its last `@`, in front of which something stands
pub record IsParted (text front rest : List ℕ) : Type 0 where
  pub split : text ≡ front ++ 64 ∷ rest
  pub some : front ≢ []
  pub last : has_at rest ≡ false

-- an `@` stands nowhere but at the front
abbrev pub HasNoPart : List ℕ → Type 0
HasNoPart text = (front rest : List ℕ) → text ≡ front ++ 64 ∷ rest → front ≡ []
