use Rattle.std.proofs.Common.{refl, sym, ap, ◌∙◌, Some}
use Rattle.pn_fs.specs.Nodes.{rooted}
use Rattle.pn_fs.proofs.Kept.{parent_root, file_root, file_held, moved_tree, moved_nowhere, keeps, makes}
use Rattle.pn_fs.proofs.sure.SureFsFs.rename.Goals as goal

pub move_body-requires-clause-some : goal.move_body-requires-clause-some
move_body-requires-clause-some c = let t = rooted c.args.self.now.nodes in file_root t c.args.self.now.tree _ (c.requires t refl).source

pub move_body-requires-clause-target : goal.move_body-requires-clause-target
move_body-requires-clause-target c = let t = rooted c.args.self.now.nodes in parent_root t _ (c.requires t refl).target.parent

pub move_body-requires-clause-stands : goal.move_body-requires-clause-stands
move_body-requires-clause-stands c = let t = rooted c.args.self.now.nodes in file_held t c.args.from.now (c.requires t refl).source

pub returns-then-is-clause-made : goal.returns-then-is-clause-made
returns-then-is-clause-made c =
    let t = rooted c.args.self.now.nodes in
    record { ok = ap Some (sym (moved_nowhere t c.args.from.now c.args.to.now (sym c.is.ensures ∙ c.if-is.true))); err = tt }

pub invariant_of-self-2 : goal.invariant_of-self-2
invariant_of-self-2 c =
    let t = rooted c.args.self.now.nodes in
    record { tree = keeps c.move_body.result t _ (rooted c.move_body.new.nodes) c.move_body.ensures.ok c.move_body.ensures.err c.args.self.now.tree (moved_tree t _ _ c.args.self.now.tree c.move_body.ensures.path (c.requires t refl)) }

pub returns-clause-made : goal.returns-clause-made
returns-clause-made c =
    let t = rooted c.args.self.now.nodes in
    makes c.move_body.result t _ (rooted c.move_body.new.nodes) c.move_body.ensures.ok c.move_body.ensures.err
