-- Entries below a folder.
use Rattle.std.specs.Prelude.{◌⊎◌, ◌≤◌, ◌≡◌, ◌<◌, ℕ, List, [], ◌∷◌, ◌++◌, length, Some}
use Rattle.std.specs.List.{Contains}
use Rattle.pn_text.specs.Path.{Path}
use Rattle.pn_fs.specs.Tree.{Entry, Tree}

-- the folder itself, or a path below it
pub record IsWithin (at p : Path) : Type 0 where
  pub tail : Path
  pub is : p ≡ tail ++ at

-- an entry stands there, below the folder
pub record StandsBelow (t : Tree) (at p : Path) : Type 0 where
  pub part : List ℕ
  pub tail : Path
  pub is : p ≡ part ∷ (tail ++ at)
  pub entry : Entry
  pub stands : t p ≡ Some entry

-- no element twice
abbrev pub IsDistinct : List Path → Type 0
IsDistinct [] = Unit {0}
IsDistinct (p ∷ ps) = (Contains ps p → ⊥) × IsDistinct ps

-- more than so many entries stand below the folder
pub record HasMany (t : Tree) (at : Path) (limit : ℕ) : Type 0 where
  pub paths : List Path
  pub many : limit < length paths
  pub distinct : IsDistinct paths
  pub stand : (p : Path) → Contains paths p → StandsBelow t at p

-- each is the folder itself or below it
abbrev pub AllWithin : Path → List Path → Type 0
AllWithin at [] = Unit {0}
AllWithin at (p ∷ ps) = IsWithin at p × AllWithin at ps

-- at most so many entries stand below the folder
pub record HasFew (t : Tree) (at : Path) (limit : ℕ) : Type 0 where
  pub paths : List Path
  pub few : length paths ≤ limit
  pub all : (q : Path) (e : Entry) → t (q ++ at) ≡ Some e → (q ≡ []) ⊎ Contains paths (q ++ at)
