use Rattle.std.proofs.Common.{◌∙◌, ap, sym}
use Rattle.std.specs.List.{flat_map}
use Rattle.pn_draft.specs.Drawing.{is_inside}
use Rattle.pn_tree.specs.Trees.{laid}
use Rattle.pn_tree.specs.Leaves.{instance_leaves}
use Rattle.pn_tree.proofs.DrawLemmas.{draws_none, draws_step, flat_more, store_inside}
use Rattle.pn_tree.proofs.plan.add_instances.Goals as goal

pub loop-one-init : goal.loop-one-init
loop-one-init c = draws_none c.args.draft.now

pub add_instance-requires-clause-inside : goal.add_instance-requires-clause-inside
add_instance-requires-clause-inside c =
    ap (λ t. is_inside t c.args.store.now) (c.loop-one.invariant.tops ∙ c.requires.folders)
    ∙ store_inside (laid c.args.store.now c.args.managed.now c.args.instances.now c.args.tops.now) c.requires.sound

pub add_instance-requires-clause-sound : goal.add_instance-requires-clause-sound
add_instance-requires-clause-sound c = c.requires.sound.instances c.one-item.result (c.loop-one.one-index, c.loop-one-test.true, sym c.one-item.is)

pub loop-one-preserved : goal.loop-one-preserved
loop-one-preserved c =
    draws_step (flat_map (instance_leaves c.args.store.now)) (instance_leaves c.args.store.now) (flat_more (instance_leaves c.args.store.now))
    c.args.draft.now c.loop-one.draft c.add_instance.new.draft c.args.instances.now c.loop-one.one-index c.one-item.result c.loop-one-test.true c.one-item.is c.loop-one.invariant c.in_ok-add_instance.ensures
