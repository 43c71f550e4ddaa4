use Rattle.std.proofs.Common.{◌≡◌, ◌∷◌, ◌++◌, List, ℕ, refl, sym, subst, true}
use Rattle.pn_text.specs.Path.{Path, SpellsParts}
use Rattle.pn_text.specs.Name.{is_name, name_path}
use Rattle.pn_digest.specs.declared.planned.Planned.TheVariants.{Link}
use Rattle.pn_tree.specs.Relatives.{link_text}
use Rattle.pn_tree.specs.Leaves.{Leaf, top_leaf}
use Rattle.pn_tree.proofs.DrawLemmas.{at_leaf, spells_name, name_parted}
use Rattle.pn_tree.proofs.leaves.add_top.Goals as goal

pub add_link-requires-clause-tail : goal.add_link-requires-clause-tail
add_link-requires-clause-tail c = subst (λ n. (x : List ℕ) × (t : Path) × SpellsParts n (x ∷ t)) (sym c.as_str.ensures.text) (name_parted c.args.one.now.name (subst (λ n. is_name n ≡ true) c.as_str.ensures.text c.as_str.ensures.name))

pub returns : goal.returns
returns c = at_leaf c.add_link.result c.args.draft.now c.add_link.new.draft c.args.one.now.holder c.as_str.result.now (λ t. let x : Leaf = (t ++ c.args.one.now.holder, Link (link_text (t ++ c.args.one.now.holder) c.args.one.now.to)) in x)
    (name_path c.args.one.now.name) (top_leaf c.args.one.now) c.add_link.ensures
    (subst (λ n. SpellsParts n (name_path c.args.one.now.name)) (sym c.as_str.ensures.text) (spells_name c.args.one.now.name (subst (λ n. is_name n ≡ true) c.as_str.ensures.text c.as_str.ensures.name))) refl
