use Rattle.std.proofs.Common.{refl}
use Rattle.pn_fs.specs.Nodes.{rooted}
use Rattle.pn_fs.proofs.sure.SureFsReadFs.read_piece.Goals as goal

pub piece_at-count-requires-clause-file : goal.piece_at-count-requires-clause-file
piece_at-count-requires-clause-file c = c.requires.file (rooted c.args.self.now.nodes) refl
