-- Relative paths that go up and then down, as the texts of links do.
use Rattle.std.specs.Prelude.{◌≡◌, ◌≢◌, ℕ, ◌+◌, ◌==◌, if◌then◌else◌, IsTrue, List, [], ◌∷◌, ◌++◌, length, zero, suc}
use Rattle.pn_text.specs.Path.{Path, is_path, text_below}

-- the parent of a path, and `/` of `/`
abbrev pub parent_of : Path → Path
parent_of [] = []
parent_of (x ∷ p) = p

-- so many parents above
abbrev pub above : ℕ → Path → Path
above zero p = p
above (suc k) p = above k (parent_of p)

-- so many parts `..`
abbrev pub dots : ℕ → Path
dots zero = []
dots (suc k) = (46 ∷ 46 ∷ []) ∷ dots k

-- A link's text: so many parents up, and then a path down.
pub record Leads (text : List ℕ) (k : ℕ) (down : Path) : Type 0 where
  pub spelled : 47 ∷ text ≡ text_below (down ++ dots k)
  pub good : IsTrue (is_path down)

-- how many slashes a text has
abbrev pub slashes : List ℕ → ℕ
slashes [] = 0
slashes (b ∷ bs) = (if b == 47 then 1 else 0) + slashes bs

-- the text of some steps: `.` for none, else the parts with slashes between them
abbrev pub IsSteps : Path → List ℕ → Type 0
IsSteps [] text = text ≡ 46 ∷ []
IsSteps (x ∷ p) text = 47 ∷ text ≡ text_below (x ∷ p)

-- no entry of the folder that both ways begin at leads on to both ends
abbrev pub NoneShared : Path → Path → Type 0
NoneShared up down = (x : List ℕ) (u d : Path) → up ≡ u ++ x ∷ [] → down ≡ d ++ x ∷ [] → ⊥

-- The text leads from one folder to another path: up to the nearest folder above both, and then down.
pub record IsRelative (from to : Path) (text : List ℕ) : Type 0 where
  pub base : Path
  pub up : Path
  pub down : Path
  pub from_is : from ≡ up ++ base
  pub to_is : to ≡ down ++ base
  pub nearest : NoneShared up down
  pub spelled : IsSteps (down ++ dots (length up)) text

-- A relative path leads from its folder to its end, and is `.` where they are one.
abbrev pub RelativeLaw : Type 0
RelativeLaw = (from to : Path) (text : List ℕ) → IsTrue (is_path to) → IsRelative from to text
    → (from ≢ to → (k : ℕ) × (down : Path) × Leads text k down × (down ++ above k from ≡ to)) × (from ≡ to → text ≡ 46 ∷ [])

-- Where the texts of two paths part: behind that of the nearest folder above both.
pub record IsFork (from to : Path) (at : ℕ) : Type 0 where
  pub base : Path
  pub up : Path
  pub down : Path
  pub from_is : from ≡ up ++ base
  pub to_is : to ≡ down ++ base
  pub nearest : NoneShared up down
  pub place : at ≡ length (text_below base)

-- The way between two paths, each of its steps behind a slash.
pub record IsWay (from to : Path) (text : List ℕ) : Type 0 where
  pub base : Path
  pub up : Path
  pub down : Path
  pub from_is : from ≡ up ++ base
  pub to_is : to ≡ down ++ base
  pub nearest : NoneShared up down
  pub spelled : text ≡ text_below (down ++ dots (length up))
