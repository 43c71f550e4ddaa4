use Rattle.pn_lock_shape.proofs.FolderLemmas.{first_is}
use Rattle.pn_lock_shape.proofs.link.at_slash.Goals as goal

pub returns : goal.returns
returns c = first_is c.args.text.now c.split_once.result c.split_once.ensures.cases
