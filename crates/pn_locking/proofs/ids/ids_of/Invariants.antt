use Rattle.std.proofs.Common.{◌≡◌, ◌++◌, drop}
use Rattle.pn_lock.specs.Locks.{ids_of}
use Rattle.pn_locking.proofs.ids.ids_of.Given as goal

abbrev pub invariant-loop-package : goal.invariant-loop-package
invariant-loop-package l = l.ids.items ++ ids_of (drop l.package-index l.packages) ≡ ids_of l.packages
