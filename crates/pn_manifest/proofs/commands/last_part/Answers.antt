use Rattle.pn_text.proofs.Cuts.{last_cut}
use Rattle.pn_manifest.proofs.LastPartLemmas.{part_behind, part_whole}
use Rattle.pn_manifest.proofs.commands.last_part.Goals as goal

pub returns-in-Some : goal.returns-in-Some
returns-in-Some c = part_behind c.args.text.now c.rsplit_once.result c.in-Some.field-0-0 c.in-Some.part c.in-Some.is (last_cut c.args.text.now c.rsplit_once.result c.rsplit_once.ensures.cases)

pub returns-in-None : goal.returns-in-None
returns-in-None c = part_whole c.args.text.now c.rsplit_once.result c.in-None.is (last_cut c.args.text.now c.rsplit_once.result c.rsplit_once.ensures.cases)
