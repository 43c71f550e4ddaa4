use Rattle.std.proofs.Common.{◌≡◌, drop}
use Rattle.pn_yaml.specs.View.{members_view}
use Rattle.pn_lock_print.specs.Members.{entries, joined}
use Rattle.pn_lock_print.proofs.entry.map_node.Given as goal

abbrev pub invariant-loop-item : goal.invariant-loop-item
invariant-loop-item g l =
    joined (members_view l.members) (entries g.E.Entry.key (g.E.Entry.written l.lock l.base) (drop l.item-index l.items)) ≡ entries g.E.Entry.key (g.E.Entry.written l.fn.lock l.fn.base) l.fn.items
