use Rattle.pn_fs.specs.Nodes.{rooted}
use Rattle.pn_fs.proofs.Kept.{entry_names}
use Rattle.pn_fs.proofs.sure.SureFsReadFs.list.Goals as goal

pub returns-clause-good : goal.returns-clause-good
returns-clause-good c = entry_names (rooted c.args.self.now.nodes) c.args.path.now c.in_ok-names.names.items c.args.self.now.tree c.in_ok-names.ensures.names
