use Rattle.std.proofs.Common.{◌≡◌, ◌≢◌, ◌<◌, ℕ, [], length}
use Rattle.pn_components.specs.declared.walk.Mark.TheVariants.{New}
use Rattle.pn_components.specs.Rows.{AreRows, rows_of}
use Rattle.pn_components.specs.Walks.{mark_of}
use Rattle.pn_components.specs.WalkStates.{IsOn}
use Rattle.pn_components.proofs.strong.components.Given as goal

-- nothing waits, and all places up to there are met
abbrev pub invariant-loop-root : goal.invariant-loop-root
invariant-loop-root l = record {
  walk : IsOn l.walk;
  none : l.walk.parts.items ≡ [];
  rows : AreRows l.edges (rows_of l.walk.rows.items);
  count : length l.walk.rows.items ≡ l.count;
  met : (v : ℕ) → v < l.root → mark_of l.walk.marks.items v ≢ New;
}
