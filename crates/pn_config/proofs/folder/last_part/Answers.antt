use Rattle.pn_text.proofs.Cuts.{last_cut}
use Rattle.pn_config.proofs.folder.last_part.Goals as goal

pub returns : goal.returns
returns c = last_cut c.args.text.now c.rsplit_once.result c.rsplit_once.ensures.cases
