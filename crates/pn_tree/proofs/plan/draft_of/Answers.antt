use Rattle.std.proofs.Common.{◌∙◌, ap, sym, subst}
use Rattle.pn_draft.specs.Drawing.{AreApart, bare}
use Rattle.pn_tree.specs.Trees.{laid}
use Rattle.pn_tree.proofs.DrawLemmas.{all_drawn}
use Rattle.pn_tree.proofs.plan.draft_of.Goals as goal

pub new-requires : goal.new-requires
new-requires c = subst AreApart (sym (c.deref.ensures.value ∙ c.in_ok-folders.ensures)) c.requires.apart

pub returns : goal.returns
returns c = all_drawn (laid c.args.store.now c.args.managed.now c.args.instances.now c.args.tops.now) c.in_ok-draft.draft c.add_markers.new.draft c.add_tops.new.draft c.add_instances.new.draft
    (c.in_ok-draft.ensures.tops ∙ c.deref.ensures.value ∙ c.in_ok-folders.ensures) (λ q. c.in_ok-draft.ensures.drawn q ∙ ap (λ t. bare t q) (c.deref.ensures.value ∙ c.in_ok-folders.ensures)) c.in_ok-add_markers.ensures c.in_ok-add_tops.ensures c.in_ok-add_instances.ensures
