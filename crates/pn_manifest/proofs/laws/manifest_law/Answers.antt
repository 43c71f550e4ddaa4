use Rattle.pn_manifest.proofs.ManifestLawLemmas.{manifest_law}
use Rattle.pn_manifest.proofs.laws.manifest_law.Goals as goal

pub returns : goal.returns
returns c = manifest_law
