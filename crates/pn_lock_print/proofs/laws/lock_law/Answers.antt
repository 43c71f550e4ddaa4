use Rattle.pn_lock_print.proofs.ApartLemmas.{lock_apart}
use Rattle.pn_lock_print.proofs.DepthLemmas.{lock_flat}
use Rattle.pn_lock_print.proofs.laws.lock_law.Goals as goal

pub returns : goal.returns
returns c = record { apart = lock_apart; flat = λ l h. lock_flat l }
