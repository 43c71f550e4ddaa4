use Rattle.std.proofs.Common.{◌≡◌, map, take}
use Rattle.pn_lock_make.specs.Made.{override_of}
use Rattle.pn_lock_make.proofs.made.overrides_of.Given as goal

abbrev pub invariant-loop-selector : goal.invariant-loop-selector
invariant-loop-selector l = l.all ≡ map override_of (take l.selector-index l.rows)
