use Rattle.std.proofs.Common.{◌∙◌, ap}
use Rattle.pn_yaml.specs.Data.{map}
use Rattle.pn_yaml.specs.View.{members_view}
use Rattle.pn_yaml.proofs.NodeViews.{view-Map}
use Rattle.pn_lock_print.proofs.MemberLemmas.{entries_done, entries_more}
use Rattle.pn_lock_print.proofs.entry.map_node.Goals as goal

pub loop-item-preserved : goal.loop-item-preserved
loop-item-preserved g c =
    entries_more g.E.Entry.key (g.E.Entry.written c.args.lock.now c.args.base.now) c.args.items.now c.loop-item.item-index c.item-item.result _ _ _ _ _ c.loop-item-test.true c.item-item.is c.key.ensures c.in_ok-node.ensures
    c.in_ok-push_member.ensures c.loop-item.invariant

pub returns : goal.returns
returns g c =
    view-Map c.loop-item.members
    ∙ ap map (entries_done g.E.Entry.key (g.E.Entry.written c.args.lock.now c.args.base.now) c.args.items.now c.loop-item.item-index (members_view c.loop-item.members) _ c.loop-item-test.false c.loop-item.invariant)
