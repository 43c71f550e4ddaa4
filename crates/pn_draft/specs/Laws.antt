-- The law of drawings.
use Rattle.std.specs.Prelude.{◌≡◌, ◌↔◌, List, Some}
use Rattle.pn_text.specs.Path.{Path}
use Rattle.pn_digest.specs.declared.planned.Planned.{Planned}
use Rattle.pn_draft.specs.Entries.{drawing, IsEntry, AreLeaves}

-- The drawing of some folders with leaves has exactly the folders, the leaves and the folders between.
abbrev pub DrawingLaw : Type 0
DrawingLaw = (tops : List Path) (leaves : List (Path × Planned)) → AreLeaves tops leaves → (q : Path) (w : Planned) → (drawing tops leaves q ≡ Some w) ↔ IsEntry tops leaves q w
