use Rattle.std.proofs.Common.{refl, sym, subst}
use Rattle.pn_fs.specs.Tree.{IsTree}
use Rattle.pn_fs.specs.Nodes.{rooted}
use Rattle.pn_fs.proofs.Kept.{remove_root, remove_tree}
use Rattle.pn_fs.proofs.sure.SureFsFs.remove.Goals as goal

pub remove-requires : goal.remove-requires
remove-requires c = let t = rooted c.args.self.now.nodes in remove_root t _ (c.requires t refl)

pub invariant_of-self-2 : goal.invariant_of-self-2
invariant_of-self-2 c =
    let t = rooted c.args.self.now.nodes in
    record { tree = subst IsTree (sym c.remove.ensures) (remove_tree t _ c.args.self.now.tree (c.requires t refl)) }
