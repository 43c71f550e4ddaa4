-- A walk as the code keeps it.
use Rattle.std.specs.Prelude.{◌≡◌, ◌+◌, ℕ, length}
use Rattle.pn_components.specs.declared.walk.Walk.{Walk}
use Rattle.pn_components.specs.Rows.{rows_of}
use Rattle.pn_components.specs.Walks.{IsWalk, work_in}

abbrev pub IsOn : Walk → Type 0
IsOn w = IsWalk (rows_of w.rows.items) w.marks.items w.stack.items w.parts.items w.waiting.items w.closed

-- how much there is to do yet
abbrev pub work_of : Walk → ℕ
work_of w = work_in (rows_of w.rows.items) w.marks.items + length w.waiting.items + length w.parts.items

-- all but the parts is the same
pub record KeepsWay (old new : Walk) : Type 0 where
  pub rows : new.rows.items ≡ old.rows.items
  pub marks : new.marks.items ≡ old.marks.items
  pub stack : new.stack.items ≡ old.stack.items
  pub waiting : new.waiting.items ≡ old.waiting.items
  pub closed : new.closed ≡ old.closed
