use Rattle.std.proofs.Common.{◌≡◌, ◌++◌, map, drop}
use Rattle.pn_manifest.specs.Listed.{entry_pair}
use Rattle.pn_manifest.proofs.texts.copy_entries.Given as goal

-- what is left leads from what was copied to the whole
abbrev pub invariant-loop-item : goal.invariant-loop-item
invariant-loop-item l = map entry_pair l.all.items ++ map entry_pair (drop l.item-index l.items) ≡ map entry_pair l.items
