-- What is added to a draft.
use Rattle.std.specs.Prelude.{◌≡◌, List}
use Rattle.pn_draft.specs.Drawing.{Drawing, drawn}
use Rattle.pn_draft.specs.Entries.{with_leaves}
use Rattle.pn_tree.specs.Leaves.{Leaf}

-- These leaves were drawn in turn.
pub record Draws (old new : Drawing) (leaves : List Leaf) : Type 0 where
  pub tops : new.tops ≡ old.tops
  pub drawn : drawn new ≡ with_leaves old.tops (drawn old) leaves
