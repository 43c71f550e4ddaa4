use Rattle.std.proofs.Common.{◌≡◌, ◌++◌, drop}
use Rattle.pn_lock_make.specs.Singles.{package_ids}
use Rattle.pn_locking.proofs.wants.package_ids.Given as goal

abbrev pub invariant-loop-package : goal.invariant-loop-package
invariant-loop-package l = l.ids.items ++ package_ids (drop l.package-index l.packages) ≡ package_ids l.packages
