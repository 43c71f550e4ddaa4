use Rattle.pn_storecore.proofs.IsSoundLemmas.{sound}
use Rattle.pn_storecore.proofs.laws.sound_law.Goals as goal

pub returns : goal.returns
returns c = sound
