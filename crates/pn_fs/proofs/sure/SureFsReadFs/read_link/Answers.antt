use Rattle.std.proofs.Common.{refl}
use Rattle.pn_fs.specs.Nodes.{rooted}
use Rattle.pn_fs.proofs.sure.SureFsReadFs.read_link.Goals as goal

pub link_at-requires : goal.link_at-requires
link_at-requires c = c.requires (rooted c.args.self.now.nodes) refl
