use Rattle.std.proofs.Common.{◌∙◌, ◌∷◌, [], ap, map}
use Rattle.pn_draft.specs.Drawing.{is_inside}
use Rattle.pn_tree.specs.Leaves.{target_leaf}
use Rattle.pn_tree.proofs.DrawLemmas.{draws_none, draws_step, map_more}
use Rattle.pn_tree.proofs.leaves.add_targets.Goals as goal

pub loop-target-init : goal.loop-target-init
loop-target-init c = draws_none c.args.draft.now

pub add_target-requires-clause-inside : goal.add_target-requires-clause-inside
add_target-requires-clause-inside c = ap (λ t. is_inside t c.args.store.now) c.loop-target.invariant.tops ∙ c.requires.inside

pub loop-target-preserved : goal.loop-target-preserved
loop-target-preserved c =
    draws_step (map (target_leaf c.args.store.now c.args.one.now)) (λ k. target_leaf c.args.store.now c.args.one.now k ∷ []) (map_more (target_leaf c.args.store.now c.args.one.now))
    c.args.draft.now c.loop-target.draft c.add_target.new.draft c.as_slice-target-items.result.now c.loop-target.target-index c.target-item.result c.loop-target-test.true c.target-item.is c.loop-target.invariant c.in_ok-add_target.ensures
