use Rattle.pn_manifest.specs.Says.{said_of}
use Rattle.pn_choice.proofs.ManifestLemmas.{unbuilt_untold, unbuilt_broke}
use Rattle.pn_choice.proofs.package.package.Goals as goal

pub returns-clause-untold : goal.returns-clause-untold
returns-clause-untold g c =
    unbuilt_untold (g.R.ReadFs.seen c.args.registry.now).tree c.args.id.now (said_of c.in_ok-manifest.manifest) c.in-Err.fault c.in_ok-manifest.ensures.has c.in-Err.ensures.unbuilt

pub returns-clause-broke : goal.returns-clause-broke
returns-clause-broke g c =
    unbuilt_broke c.args.id.now (said_of c.in_ok-manifest.manifest) c.in-Err.fault (g.R.ReadFs.seen c.args.registry.now) (g.R.ReadFs.seen c.read.new.registry) c.in-Err.ensures.unbuilt
