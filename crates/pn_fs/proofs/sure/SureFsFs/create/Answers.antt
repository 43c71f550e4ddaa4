use Rattle.std.proofs.Common.{refl, ap, ◌∙◌, Some}
use Rattle.pn_fs.specs.Tree.{put, file}
use Rattle.pn_fs.specs.Nodes.{rooted}
use Rattle.pn_fs.proofs.NodeLemmas.{on_ok}
use Rattle.pn_fs.proofs.Kept.{parent_root, create_tree, keeps, makes}
use Rattle.pn_fs.proofs.sure.SureFsFs.create.Goals as goal

pub place-requires : goal.place-requires
place-requires c = parent_root (rooted c.args.self.now.nodes) _ (c.requires _ refl).parent

pub invariant_of-self-2 : goal.invariant_of-self-2
invariant_of-self-2 c =
    let t = rooted c.args.self.now.nodes in
    record { tree = keeps c.place.result t _ (rooted c.place.new.nodes) c.place.ensures.ok c.place.ensures.err c.args.self.now.tree (create_tree t _ _ c.args.self.now.tree c.place.ensures.path (c.requires t refl)) }

pub returns-clause-made : goal.returns-clause-made
returns-clause-made c =
    let t = rooted c.args.self.now.nodes in
    makes c.place.result t _ (rooted c.place.new.nodes) (on_ok c.place.result (λ e. e ∙ ap (λ x. put t c.args.path.now (Some (file x))) c.new.ensures.items) c.place.ensures.ok) c.place.ensures.err
