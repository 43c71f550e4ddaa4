use Rattle.pn_choice.proofs.ManifestLemmas.{has_manifest}
use Rattle.pn_choice.proofs.package.read.Goals as goal

pub returns-in-Ok-clause-has : goal.returns-in-Ok-clause-has
returns-in-Ok-clause-has g c = has_manifest (g.R.ReadFs.seen c.args.registry.now).tree c.args.id.now c.in-Ok.manifest c.in-Ok.ensures.found c.in-Ok.ensures.read c.in-Ok.ensures.rising
