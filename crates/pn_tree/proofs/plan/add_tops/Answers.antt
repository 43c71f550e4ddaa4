use Rattle.std.proofs.Common.{◌∙◌, ◌∷◌, [], ap, sym, map}
use Rattle.pn_draft.specs.Drawing.{is_inside}
use Rattle.pn_tree.specs.Trees.{laid}
use Rattle.pn_tree.specs.Leaves.{top_leaf}
use Rattle.pn_tree.proofs.DrawLemmas.{draws_none, draws_step, map_more, holder_inside}
use Rattle.pn_tree.proofs.plan.add_tops.Goals as goal

pub loop-one-init : goal.loop-one-init
loop-one-init c = draws_none c.args.draft.now

pub add_top-requires : goal.add_top-requires
add_top-requires c =
    ap (λ t. is_inside t c.one-item.result.holder) (c.loop-one.invariant.tops ∙ c.requires.folders)
    ∙ holder_inside (laid c.args.store.now c.args.managed.now c.args.instances.now c.args.tops.now) c.requires.sound c.one-item.result (c.loop-one.one-index, c.loop-one-test.true, sym c.one-item.is)

pub loop-one-preserved : goal.loop-one-preserved
loop-one-preserved c =
    draws_step (map top_leaf) (λ t. top_leaf t ∷ []) (map_more top_leaf)
    c.args.draft.now c.loop-one.draft c.add_top.new.draft c.args.tops.now c.loop-one.one-index c.one-item.result c.loop-one-test.true c.one-item.is c.loop-one.invariant c.in_ok-add_top.ensures
