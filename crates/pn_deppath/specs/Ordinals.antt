-- Texts that are told apart by ordinals.
use Rattle.std.specs.Prelude.{◌≡◌, ◌<◌, ◌^◌, ℕ, zero, suc, ◌+◌, List, [], ◌∷◌, ◌++◌, length, bytes_eq, false}
use Rattle.std.specs.Fmt.{decimal}
use Rattle.std.specs.List.{All, IsDistinct}
use Rattle.pn_deppath.specs.Cuts.{has_byte}
use Rattle.pn_deppath.specs.Folders.{count_of}

-- a text where that many before it are equal: the second has the ordinal 2
abbrev pub with_place : List ℕ → ℕ → List ℕ
with_place text zero = text
with_place text (suc k) = text ++ 40 ∷ 126 ∷ (decimal (suc k + 1) ++ 41 ∷ [])

-- how many of these are the text
abbrev pub times : List (List ℕ) → List ℕ → ℕ
times before text = count_of (λ x. bytes_eq x text) before

-- texts behind others, each with its ordinal
abbrev pub numbered_behind : List (List ℕ) → List (List ℕ) → List (List ℕ)
numbered_behind before [] = []
numbered_behind before (t ∷ ts) = with_place t (times before t) ∷ numbered_behind (before ++ t ∷ []) ts

-- of equal texts the second, third and so on have `(~2)`, `(~3)` and so on
abbrev pub with_ordinals : List (List ℕ) → List (List ℕ)
with_ordinals texts = numbered_behind [] texts

-- Texts without `~` are told apart by their ordinals.
pub record OrdinalLaw : Type 0 where
  pub distinct : (texts : List (List ℕ)) → length texts < 2 ^ 32 → All (λ t. has_byte 126 t ≡ false) texts → IsDistinct bytes_eq (with_ordinals texts)
