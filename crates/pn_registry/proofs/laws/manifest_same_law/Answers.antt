use Rattle.pn_registry.proofs.ManifestLawLemmas.{same}
use Rattle.pn_registry.proofs.laws.manifest_same_law.Goals as goal

pub returns : goal.returns
returns c = same
