use Rattle.std.proofs.Common.{◌∙◌, ◌∷◌, [], ap, map}
use Rattle.pn_draft.specs.Drawing.{is_inside}
use Rattle.pn_tree.specs.Leaves.{file_leaf}
use Rattle.pn_tree.proofs.DrawLemmas.{draws_none, draws_step, map_more}
use Rattle.pn_tree.proofs.leaves.add_files.Goals as goal

pub loop-file-init : goal.loop-file-init
loop-file-init c = draws_none c.args.draft.now

pub add_file-requires-clause-inside : goal.add_file-requires-clause-inside
add_file-requires-clause-inside c = ap (λ t. is_inside t c.args.store.now) c.loop-file.invariant.tops ∙ c.requires.inside

pub loop-file-preserved : goal.loop-file-preserved
loop-file-preserved c =
    draws_step (map (file_leaf c.args.store.now c.args.one.now)) (λ f. file_leaf c.args.store.now c.args.one.now f ∷ []) (map_more (file_leaf c.args.store.now c.args.one.now))
    c.args.draft.now c.loop-file.draft c.add_file.new.draft c.as_slice-file-items.result.now c.loop-file.file-index c.file-item.result c.loop-file-test.true c.file-item.is c.loop-file.invariant c.in_ok-add_file.ensures
