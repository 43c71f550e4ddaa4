use Rattle.serde_json.specs.View.{view}
use Rattle.pn_manifest.specs.Says.{said_of}
use Rattle.pn_manifest.proofs.IsRisingSaidLemmas.{text_rises}
use Rattle.pn_manifest.proofs.manifest.Manifest.read.Goals as goal

pub returns-clause-rising : goal.returns-clause-rising
returns-clause-rising c = text_rises c.args.bytes.now (view c.in_ok-value.value) (said_of c.in_ok-manifest.manifest) c.in_ok-value.ensures.ok c.in_ok-manifest.ensures.ok
