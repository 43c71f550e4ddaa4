use Rattle.pn_asked.proofs.FitsLemmas.{law}
use Rattle.pn_asked.proofs.laws.fits_law.Goals as goal

pub returns : goal.returns
returns c = law
