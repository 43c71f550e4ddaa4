use Rattle.std.proofs.Common.{◌≡◌, take}
use Rattle.pn_lock_make.specs.Targets.{ranks_of}
use Rattle.pn_lock_make.proofs.order.ranks_of.Given as goal

abbrev pub invariant-loop-path : goal.invariant-loop-path
invariant-loop-path l = l.ranks.items ≡ ranks_of l.keys (take l.path-index l.paths)
