use Rattle.std.proofs.Common.{[], ◌∷◌, ◌∙◌, refl, map}
use Rattle.pn_node.specs.Plan.{marker_name}
use Rattle.pn_package.specs.Listed.{pair_of}
use Rattle.pn_tree.proofs.DrawLemmas.{spells_part}
use Rattle.pn_layout.proofs.OuterLemmas.{all_outer}
use Rattle.pn_layout.proofs.outer.outer.Goals as goal

pub add-requires-clause-tail : goal.add-requires-clause-tail
add-requires-clause-tail c = (marker_name ∷ [], spells_part marker_name refl)

pub add_store-requires : goal.add_store-requires
add_store-requires c = (c.in_ok-add.ensures (marker_name ∷ []) (spells_part marker_name refl)).tops ∙ c.in_ok-draft.ensures.tops

pub add_links-requires : goal.add_links-requires
add_links-requires c = c.in_ok-add_store.ensures.tops ∙ (c.in_ok-add.ensures (marker_name ∷ []) (spells_part marker_name refl)).tops ∙ c.in_ok-draft.ensures.tops

pub returns : goal.returns
returns c = all_outer c.args.modules.now (map pair_of c.args.direct.now) (map pair_of c.args.direct.now) c.args.packages.now c.in_ok-draft.draft c.add.new.draft c.add_store.new.draft c.add_links.new.draft
    c.in_ok-draft.ensures.tops c.in_ok-draft.ensures.drawn (c.in_ok-add.ensures (marker_name ∷ []) (spells_part marker_name refl)) c.in_ok-add_store.ensures c.in_ok-add_links.ensures refl
