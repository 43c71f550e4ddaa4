-- What stands in the drawing of some folders with leaves below them.
use Rattle.std.specs.Prelude.{◌≡◌, true, List, [], ◌∷◌, Option}
use Rattle.std.specs.List.{Contains}
use Rattle.pn_text.specs.Path.{Path}
use Rattle.pn_digest.specs.declared.planned.Planned.{Planned}
use Rattle.pn_digest.specs.declared.planned.Planned.TheVariants.{Folder}
use Rattle.pn_draft.specs.Drawing.{AreApart, is_below, is_inside, bare, with_leaf}

-- the folders, with each leaf drawn in turn
abbrev pub with_leaves : List Path → (Path → Option Planned) → List (Path × Planned) → Path → Option Planned
with_leaves tops d [] = d
with_leaves tops d (l ∷ ls) = with_leaves tops (with_leaf tops d l.0 l.1) ls

abbrev pub drawing : List Path → List (Path × Planned) → Path → Option Planned
drawing tops leaves = with_leaves tops (bare tops) leaves

-- Each of the folders, each leaf, and each folder between.
pub data IsEntry (tops : List Path) (leaves : List (Path × Planned)) : Path → Planned → Type 0 where
  top : (m : Path) → Contains tops m → IsEntry tops leaves m Folder
  leaf : (p : Path) (w : Planned) → Contains leaves (p, w) → IsEntry tops leaves p w
  between : (q p : Path) (w : Planned) → Contains leaves (p, w) → is_below q p ≡ true → is_inside tops q ≡ true → IsEntry tops leaves q Folder

-- All leaves are strictly below the folders, none of which is below another one; leaves at one path are one, and one above
-- another is a folder.
pub record AreLeaves (tops : List Path) (leaves : List (Path × Planned)) : Type 0 where
  pub apart : AreApart tops
  pub below : (p : Path) (w : Planned) → Contains leaves (p, w) → (m : Path) × Contains tops m × (is_below m p ≡ true)
  pub one : (p : Path) (v w : Planned) → Contains leaves (p, v) → Contains leaves (p, w) → v ≡ w
  pub above : (p q : Path) (v w : Planned) → Contains leaves (p, v) → Contains leaves (q, w) → is_below q p ≡ true → w ≡ Folder
