use Rattle.std.proofs.Common.{◌∷◌, [], sym, subst}
use Rattle.std.specs.Prelude.{string_bytes}
use Rattle.pn_text.specs.Path.{SpellsParts}
use Rattle.pn_text.specs.Name.{name_path, modules}
use Rattle.pn_tree.specs.Trees.{beside, home}
use Rattle.pn_tree.proofs.DrawLemmas.{draws_instance, spells_same, spells_name}
use Rattle.pn_tree.proofs.leaves.add_instance.Goals as goal

pub add_home-requires-clause-home : goal.add_home-requires-clause-home
add_home-requires-clause-home c =
    spells_same c.as_str-4.result.now _ (home [] c.args.one.now) c.as_str-4.ensures.value
    (c.in_ok-home.ensures (beside [] c.args.one.now) (name_path c.args.one.now.name)
    (spells_same c.as_str-2.result.now _ (beside [] c.args.one.now) c.as_str-2.ensures.value (subst (λ d. SpellsParts (string_bytes c.in_ok-beside.beside) (modules ∷ d ∷ [])) c.as_str.ensures c.in_ok-beside.ensures))
    (subst (λ n. SpellsParts n (name_path c.args.one.now.name)) (sym c.as_str-3.ensures.text) (spells_name c.args.one.now.name c.requires.sound.name)))

pub add_files-requires-clause-home : goal.add_files-requires-clause-home
add_files-requires-clause-home c =
    spells_same c.as_str-5.result.now _ (home [] c.args.one.now) c.as_str-5.ensures.value
    (c.in_ok-home.ensures (beside [] c.args.one.now) (name_path c.args.one.now.name)
    (spells_same c.as_str-2.result.now _ (beside [] c.args.one.now) c.as_str-2.ensures.value (subst (λ d. SpellsParts (string_bytes c.in_ok-beside.beside) (modules ∷ d ∷ [])) c.as_str.ensures c.in_ok-beside.ensures))
    (subst (λ n. SpellsParts n (name_path c.args.one.now.name)) (sym c.as_str-3.ensures.text) (spells_name c.args.one.now.name c.requires.sound.name)))

pub returns : goal.returns
returns c = draws_instance c.add_targets.result c.args.store.now c.args.one.now c.args.draft.now c.add_home.new.draft c.add_files.new.draft c.add_targets.new.draft c.in_ok-add_home.ensures c.in_ok-add_files.ensures c.add_targets.ensures
