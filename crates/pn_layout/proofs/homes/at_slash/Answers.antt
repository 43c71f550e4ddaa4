use Rattle.pn_layout.proofs.Slashes.{split_slash}
use Rattle.pn_layout.proofs.homes.at_slash.Goals as goal

pub returns : goal.returns
returns c = split_slash c.args.text.now c.split_once.result c.split_once.ensures.cases
