use Rattle.std.proofs.Common.{refl}
use Rattle.pn_fs.specs.Nodes.{rooted}
use Rattle.pn_fs.proofs.Kept.{file_tree, keeps, grows}
use Rattle.pn_fs.proofs.sure.SureFsFs.append.Goals as goal

pub append-requires : goal.append-requires
append-requires c = c.requires _ refl

pub invariant_of-self-2 : goal.invariant_of-self-2
invariant_of-self-2 c =
    let t = rooted c.args.self.now.nodes in
    record { tree = keeps c.append.result t _ (rooted c.append.new.nodes) c.append.ensures.ok c.append.ensures.err c.args.self.now.tree (file_tree t _ _ c.args.self.now.tree (c.requires t refl)) }

pub returns-clause-grown : goal.returns-clause-grown
returns-clause-grown c = grows c.append.result _ _ _ _ c.append.ensures.ok c.append.ensures.err
