use Rattle.pn_fetch.proofs.IsStoredLemmas.{kept}
use Rattle.pn_fetch.proofs.laws.kept_law.Goals as goal

pub returns : goal.returns
returns c = kept c.grew_law.ensures c.stands_law.ensures
