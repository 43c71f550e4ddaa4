use Rattle.pn_registry.proofs.ManifestLawLemmas.{passed}
use Rattle.pn_registry.proofs.laws.manifest_passed_law.Goals as goal

pub returns : goal.returns
returns c = passed
