use Rattle.std.proofs.Common.{◌≡◌, ◌++◌, [], ap, sym, subst, true, append_assoc}
use Rattle.pn_text.specs.Path.{SpellsParts}
use Rattle.pn_text.specs.Name.{is_name, name_path}
use Rattle.pn_digest.specs.declared.planned.Planned.TheVariants.{Link}
use Rattle.pn_tree.specs.Trees.{beside}
use Rattle.pn_tree.specs.Relatives.{link_text}
use Rattle.pn_tree.specs.Leaves.{Leaf, target_leaf}
use Rattle.pn_tree.proofs.DrawLemmas.{at_leaf, spells_same, spells_name, parted_below}
use Rattle.pn_tree.proofs.leaves.add_target.Goals as goal

pub add_link-requires-clause-tail : goal.add_link-requires-clause-tail
add_link-requires-clause-tail c =
    parted_below c.args.target.now.name (beside [] c.args.one.now) c.as_str-2.result.now (subst (λ n. is_name n ≡ true) c.as_str.ensures.text c.as_str.ensures.name)
    (spells_same c.as_str-2.result.now _ (name_path c.args.target.now.name ++ beside [] c.args.one.now) c.as_str-2.ensures.value (c.in_ok-tail.ensures (beside [] c.args.one.now) (name_path c.args.target.now.name) c.requires.beside
    (subst (λ n. SpellsParts n (name_path c.args.target.now.name)) (sym c.as_str.ensures.text) (spells_name c.args.target.now.name (subst (λ n. is_name n ≡ true) c.as_str.ensures.text c.as_str.ensures.name)))))

pub returns : goal.returns
returns c = at_leaf c.add_link.result c.args.draft.now c.add_link.new.draft c.args.store.now c.as_str-2.result.now (λ t. let x : Leaf = (t ++ c.args.store.now, Link (link_text (t ++ c.args.store.now) c.args.target.now.to)) in x)
    (name_path c.args.target.now.name ++ beside [] c.args.one.now) (target_leaf c.args.store.now c.args.one.now c.args.target.now) c.add_link.ensures
    (spells_same c.as_str-2.result.now _ (name_path c.args.target.now.name ++ beside [] c.args.one.now) c.as_str-2.ensures.value (c.in_ok-tail.ensures (beside [] c.args.one.now) (name_path c.args.target.now.name) c.requires.beside
    (subst (λ n. SpellsParts n (name_path c.args.target.now.name)) (sym c.as_str.ensures.text) (spells_name c.args.target.now.name (subst (λ n. is_name n ≡ true) c.as_str.ensures.text c.as_str.ensures.name)))))
    (ap (λ q. let x : Leaf = (q, Link (link_text q c.args.target.now.to)) in x) (append_assoc (name_path c.args.target.now.name) (beside [] c.args.one.now) c.args.store.now))
