use Rattle.pn_tree.proofs.DrawLemmas.{one_leaf}
use Rattle.pn_tree.proofs.leaves.add.Goals as goal

pub returns : goal.returns
returns c = one_leaf c.add.result c.args.draft.now c.add.new.self c.args.folder.now c.args.tail.now c.args.what c.add.ensures.tops c.add.ensures.ok
