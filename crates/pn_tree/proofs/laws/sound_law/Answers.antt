use Rattle.pn_tree.proofs.SoundLemmas.{sound}
use Rattle.pn_tree.proofs.laws.sound_law.Goals as goal

pub returns : goal.returns
returns c = sound
