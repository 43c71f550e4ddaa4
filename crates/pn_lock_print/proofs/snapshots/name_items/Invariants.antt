use Rattle.std.proofs.Common.{◌≡◌, ◌++◌, drop, map}
use Rattle.pn_yaml.specs.View.{view}
use Rattle.pn_lock_print.specs.LockData.{text}
use Rattle.pn_lock_print.proofs.snapshots.name_items.Given as goal

abbrev pub invariant-loop-name : goal.invariant-loop-name
invariant-loop-name l = map view l.items ++ map text (drop l.name-index l.names) ≡ map text l.fn.names
