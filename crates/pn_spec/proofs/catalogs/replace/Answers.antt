use Rattle.pn_spec.proofs.Puts.{set-at}
use Rattle.pn_spec.proofs.catalogs.replace.Goals as goal

pub returns : goal.returns
returns c = set-at c.args.items.now.items c.args.at c.args.entry c.requires
