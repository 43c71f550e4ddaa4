use Rattle.std.proofs.Common.{◌+◌, ◌*◌, length}
use Rattle.pn_yaml.specs.BlockSteps.{items_from, members_from}
use Rattle.pn_yaml.specs.Blocks.{value_on}
use Rattle.pn_yaml.specs.Cursor.{row_of, rows_ahead, rows_left}
use Rattle.pn_yaml.specs.KeySets.{AreKeys, seen_of}
use Rattle.pn_yaml.proofs.Blocking.{ItemsLeft, MembersLeft}
use Rattle.pn_yaml.proofs.Views.{views, member_views}
use Rattle.pn_yaml.proofs.block.+block.Given as goal

abbrev pub decreases-value_on : goal.decreases-value_on
decreases-value_on l = 8 * l.levels

abbrev pub decreases-unwritten : goal.decreases-unwritten
decreases-unwritten l = 8 * l.levels + 7

abbrev pub decreases-block_at : goal.decreases-block_at
decreases-block_at l = 8 * l.levels + 6

abbrev pub decreases-list_at : goal.decreases-list_at
decreases-list_at l = 8 * l.levels + 5

abbrev pub decreases-map_at : goal.decreases-map_at
decreases-map_at l = 8 * l.levels + 5

abbrev pub invariant-list_at-items : goal.invariant-list_at-items
invariant-list_at-items l = ItemsLeft (value_on l.levels) l.indent (views l.items) (rows_ahead l.next) (items_from l.levels (row_of l.fn.front.line) (rows_left l.fn.front.below))

abbrev pub decreases-list_at-items : goal.decreases-list_at-items
decreases-list_at-items l = length (rows_ahead l.next)

abbrev pub invariant-map_at-members : goal.invariant-map_at-members
invariant-map_at-members l = record {
  keys : AreKeys l.keys (seen_of l.members);
  left : MembersLeft (value_on l.levels) l.indent (seen_of l.members) (member_views l.members) (rows_ahead l.next) (members_from l.levels (row_of l.fn.front.line) (rows_left l.fn.front.below));
}

abbrev pub decreases-map_at-members : goal.decreases-map_at-members
decreases-map_at-members l = length (rows_ahead l.next)
