use Rattle.std.proofs.Common.{◌++◌, []}
use Rattle.pn_digest.specs.declared.planned.Planned.TheVariants.{Stored}
use Rattle.pn_tree.specs.Trees.{home}
use Rattle.pn_tree.specs.Leaves.{Leaf, file_leaf}
use Rattle.pn_tree.proofs.DrawLemmas.{at_leaf, spells_same, file_at}
use Rattle.pn_tree.proofs.leaves.add_file.Goals as goal

pub add-requires-clause-tail : goal.add-requires-clause-tail
add-requires-clause-tail c = (c.args.file.now.0 ++ home [] c.args.one.now, (spells_same c.as_str-2.result.now _ (c.args.file.now.0 ++ home [] c.args.one.now) c.as_str-2.ensures.value (c.in_ok-tail.ensures (home [] c.args.one.now) c.args.file.now.0 c.requires.home c.as_str.ensures.text)))

pub returns : goal.returns
returns c = at_leaf c.add.result c.args.draft.now c.add.new.draft c.args.store.now c.as_str-2.result.now (λ t. let x : Leaf = (t ++ c.args.store.now, Stored c.copy.result) in x) (c.args.file.now.0 ++ home [] c.args.one.now)
    (file_leaf c.args.store.now c.args.one.now c.args.file.now) c.add.ensures (spells_same c.as_str-2.result.now _ (c.args.file.now.0 ++ home [] c.args.one.now) c.as_str-2.ensures.value (c.in_ok-tail.ensures (home [] c.args.one.now) c.args.file.now.0 c.requires.home c.as_str.ensures.text))
    (λ i. (file_at c.args.store.now c.args.one.now c.args.file.now.0 i, Stored (c.copy.ensures i)))
