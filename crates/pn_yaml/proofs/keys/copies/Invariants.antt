use Rattle.std.proofs.Common.{take}
use Rattle.pn_yaml.specs.KeySets.{HasKeys, seen_of}
use Rattle.pn_yaml.proofs.keys.copies.Given as goal

abbrev pub invariant-loop-key : goal.invariant-loop-key
invariant-loop-key l = HasKeys l.set (seen_of (take l.key-index l.members))
