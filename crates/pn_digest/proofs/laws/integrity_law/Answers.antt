use Rattle.pn_digest.proofs.IntegrityTextLemmas.{one_digest}
use Rattle.pn_digest.proofs.laws.integrity_law.Goals as goal

pub returns : goal.returns
returns c a b da db same = one_digest a b da db (cc same)
