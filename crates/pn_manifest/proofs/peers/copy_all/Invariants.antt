use Rattle.std.proofs.Common.{◌≡◌, ◌++◌, drop}
use Rattle.pn_manifest.proofs.peers.copy_all.Given as goal

-- what is left leads from what was copied to the whole
abbrev pub invariant-loop-item : goal.invariant-loop-item
invariant-loop-item l = l.all.items ++ drop l.item-index l.items ≡ l.items
