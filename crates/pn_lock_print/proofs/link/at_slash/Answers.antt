use Rattle.pn_lock_print.proofs.PartLemmas.{first_is}
use Rattle.pn_lock_print.proofs.link.at_slash.Goals as goal

pub returns : goal.returns
returns c = first_is c.args.text.now c.split_once.result c.split_once.ensures.cases
