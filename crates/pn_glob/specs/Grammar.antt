-- The grammar of patterns: the texts without braces that a pattern stands for.
use Rattle.std.specs.Prelude.{◌≡◌, ◌≤◌, ◌<◌, ℕ, ◌==◌, ◌&&◌, ◌||◌, not, Bool, true, false, List, [], ◌∷◌, ◌++◌, length, map}
use Rattle.std.specs.List.{list_all}
use Rattle.pn_glob.specs.Bytes.{is_bracket}

abbrev pub is_plain : ℕ → Bool
is_plain b = not (is_bracket b)

-- a byte of a choice between braces
abbrev pub is_inner : ℕ → Bool
is_inner b = is_plain b && not (b == 44)

-- each of the texts with more behind it
abbrev pub each_with : List (List ℕ) → List ℕ → List (List ℕ)
each_with cs x = map (λ c. c ++ x) cs

-- what stands between braces behind texts: choices with commas between them, and the texts with each choice behind them.
-- A further choice comes only behind at most 64 texts.
pub data Chosen (cs : List (List ℕ)) : List ℕ → List (List ℕ) → Type 0 where
  one : (x : List ℕ) → list_all is_inner x ≡ true → Chosen cs x (each_with cs x)
  more : (u x : List ℕ) (ds : List (List ℕ)) → Chosen cs u ds → length ds ≤ 64 → list_all is_inner x ≡ true
      → Chosen cs (u ++ 44 ∷ x) (ds ++ each_with cs x)

-- a path pattern, and the texts that it stands for: at most 64 behind each of its braces
pub data Spells : List ℕ → List (List ℕ) → Type 0 where
  empty : Spells [] ([] ∷ [])
  plain : (t x : List ℕ) (cs : List (List ℕ)) → Spells t cs → list_all is_plain x ≡ true → Spells (t ++ x) (each_with cs x)
  brace : (t u : List ℕ) (cs ds : List (List ℕ)) → Spells t cs → Chosen cs u ds → length ds ≤ 64 → Spells (t ++ 123 ∷ (u ++ 125 ∷ [])) ds

-- a byte that ends a choice
abbrev pub ends_choice : List ℕ → Bool
ends_choice [] = false
ends_choice (b ∷ t) = (b == 44) || (b == 125)

-- more than 64 texts, with a choice that ends behind a front of the pattern
pub record HasMany (body : List ℕ) : Type 0 where
  pub front : List ℕ
  pub inner : List ℕ
  pub after : List ℕ
  pub before : List (List ℕ)
  pub chosen : List (List ℕ)
  pub split : body ≡ front ++ 123 ∷ (inner ++ after)
  pub spelled : Spells front before
  pub choices : Chosen before inner chosen
  pub ends : ends_choice after ≡ true
  pub many : 64 < length chosen

-- The byte behind a front of a pattern can't stand there.
pub data IsStopped : List ℕ → ℕ → Type 0 where
  outside : (t : List ℕ) (cs : List (List ℕ)) (b : ℕ) → Spells t cs → is_bracket b ≡ true → (b == 123) ≡ false → IsStopped t b
  inside : (t u : List ℕ) (cs ds : List (List ℕ)) (b : ℕ) → Spells t cs → Chosen cs u ds → is_bracket b ≡ true → (b == 125) ≡ false
      → IsStopped (t ++ 123 ∷ u) b

pub record HasBadByte (body : List ℕ) (at : ℕ) : Type 0 where
  pub front : List ℕ
  pub byte : ℕ
  pub after : List ℕ
  pub split : body ≡ front ++ byte ∷ after
  pub stopped : IsStopped front byte
  pub place : at ≡ length front

-- a brace that is not closed
pub record IsOpen (body : List ℕ) : Type 0 where
  pub front : List ℕ
  pub inner : List ℕ
  pub before : List (List ℕ)
  pub chosen : List (List ℕ)
  pub split : body ≡ front ++ 123 ∷ inner
  pub spelled : Spells front before
  pub choices : Chosen before inner chosen
