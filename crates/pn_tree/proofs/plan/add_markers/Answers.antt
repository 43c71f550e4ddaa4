use Rattle.std.proofs.Common.{◌∙◌, ◌∷◌, [], ap, sym, map}
use Rattle.pn_text.proofs.Members.{to_map}
use Rattle.pn_draft.specs.Drawing.{is_inside}
use Rattle.pn_draft.proofs.TopLemmas.{member_inside}
use Rattle.pn_tree.specs.Trees.{Managed}
use Rattle.pn_tree.specs.Sound.{folders}
use Rattle.pn_tree.specs.Leaves.{marker_leaf}
use Rattle.pn_tree.proofs.DrawLemmas.{draws_none, draws_step, map_more}
use Rattle.pn_tree.proofs.plan.add_markers.Goals as goal

pub loop-one-init : goal.loop-one-init
loop-one-init c = draws_none c.args.draft.now

pub add_marker-requires : goal.add_marker-requires
add_marker-requires c =
    ap (λ t. is_inside t c.one-item.result.0) (c.loop-one.invariant.tops ∙ c.requires)
    ∙ member_inside (folders c.args.managed.now) c.one-item.result.0 (to_map (λ (m : Managed). m.0) c.args.managed.now c.one-item.result (c.loop-one.one-index, c.loop-one-test.true, sym c.one-item.is))

pub loop-one-preserved : goal.loop-one-preserved
loop-one-preserved c =
    draws_step (map marker_leaf) (λ m. marker_leaf m ∷ []) (map_more marker_leaf)
    c.args.draft.now c.loop-one.draft c.add_marker.new.draft c.args.managed.now c.loop-one.one-index c.one-item.result c.loop-one-test.true c.one-item.is c.loop-one.invariant c.in_ok-add_marker.ensures
