use Rattle.std.proofs.Common.{◌≡◌, ◌∙◌, ◌∷◌, [], map, sym, subst, true}
use Rattle.pn_text.specs.Name.{is_name, name_path}
use Rattle.pn_text.specs.Path.{SpellsParts}
use Rattle.pn_package.specs.Listed.{pair_of}
use Rattle.pn_tree.proofs.DrawLemmas.{draws_none, draws_step, spells_name}
use Rattle.pn_layout.specs.Places.{link_leaf}
use Rattle.pn_layout.proofs.OuterLemmas.{maps_more}
use Rattle.pn_layout.proofs.outer.add_links.Goals as goal

pub loop-link-init : goal.loop-link-init
loop-link-init c = draws_none c.args.draft.now

pub add-requires-clause-tops : goal.add-requires-clause-tops
add-requires-clause-tops c = c.loop-link.invariant.tops ∙ c.requires

pub add-requires-clause-tail : goal.add-requires-clause-tail
add-requires-clause-tail c = (name_path c.as_str.result.now, spells_name c.as_str.result.now c.as_str.ensures.name)

pub loop-link-preserved : goal.loop-link-preserved
loop-link-preserved c =
    draws_step (λ all. map (link_leaf c.args.modules.now) (map pair_of all)) (λ d. link_leaf c.args.modules.now (pair_of d) ∷ []) (maps_more (link_leaf c.args.modules.now) pair_of)
    c.args.draft.now c.loop-link.draft c.add.new.draft c.args.direct.now c.loop-link.link-index c.link-item.result c.loop-link-test.true c.link-item.is c.loop-link.invariant
    (c.in_ok-add.ensures (name_path c.link-item.result.alias) (subst (λ n. SpellsParts n (name_path c.link-item.result.alias)) (sym c.as_str.ensures.text) (spells_name c.link-item.result.alias (subst (λ n. is_name n ≡ true) c.as_str.ensures.text c.as_str.ensures.name))))
