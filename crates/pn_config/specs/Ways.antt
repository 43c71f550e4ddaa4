-- Steps up and parts down, as a text is read from its end.
use Rattle.std.specs.Prelude.{◌≡◌, ◌≤◌, ℕ, ◌+◌, List, ◌++◌, ◌∷◌, IsTrue, length}
use Rattle.pn_text.specs.Path.{Path, is_part, is_path}
use Rattle.pn_text.specs.Relative.{above}
use Rattle.pn_config.specs.declared.folder.Way.{Way}
use Rattle.pn_config.specs.Folders.{led, led_by}

-- where a way leads from a folder
abbrev pub led_along : Way → Path → Path
led_along w from = w.parts.items ++ above w.ups from

-- The way leads where the parts do.
pub record IsWay (p : Path) (w : Way) : Type 0 where
  pub good : IsTrue (is_path w.parts.items)
  pub leads : (from : Path) → led_along w from ≡ led_by from p

-- One part more stands before the way.
pub record PutsPart (x : List ℕ) (old new : Way) : Type 0 where
  pub good : IsTrue (is_path old.parts.items) → IsTrue (is_path new.parts.items)
  pub few : new.ups ≤ old.ups + length x
  pub leads : (from : Path) → led_along new from ≡ led_along old (led x from)

-- the same of a part that is a name
pub record PutsName (x : List ℕ) (old new : Way) : Type 0 where
  pub good : IsTrue (is_part x) → IsTrue (is_path old.parts.items) → IsTrue (is_path new.parts.items)
  pub few : new.ups ≤ old.ups
  pub leads : (from : Path) → led_along new from ≡ led_along old (x ∷ from)
