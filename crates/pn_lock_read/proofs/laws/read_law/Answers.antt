use Rattle.pn_lock_read.proofs.ReadLawLemmas.{read_law}
use Rattle.pn_lock_read.proofs.laws.read_law.Goals as goal

pub returns : goal.returns
returns c = read_law
