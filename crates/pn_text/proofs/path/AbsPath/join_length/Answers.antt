use Rattle.std.proofs.Common.{sym}
use Rattle.pn_text.proofs.Joins.{joined_length}
use Rattle.pn_text.proofs.path.AbsPath.join_length.Goals as goal

pub returns : goal.returns
returns c = sym (joined_length c.stem-stem.result.now c.as_str-tail.result.now c.args.self.now c.args.tail.now c.stem-stem.ensures.stem c.stem-stem.ensures.good c.as_str-tail.ensures.text)
