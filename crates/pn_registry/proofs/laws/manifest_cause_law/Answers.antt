use Rattle.pn_registry.proofs.ManifestLawLemmas.{cause}
use Rattle.pn_registry.proofs.laws.manifest_cause_law.Goals as goal

pub returns : goal.returns
returns c = cause
