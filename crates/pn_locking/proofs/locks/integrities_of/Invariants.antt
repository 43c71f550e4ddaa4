use Rattle.std.proofs.Common.{◌≡◌, ◌++◌, drop, map}
use Rattle.pn_lock_make.specs.Singles.{package_ids}
use Rattle.pn_locking.specs.Integrities.{digest_at}
use Rattle.pn_locking.proofs.locks.integrities_of.Given as goal

abbrev pub invariant-loop-package : goal.invariant-loop-package
invariant-loop-package l = l.all.items ++ map (digest_at l.ids l.digests) (package_ids (drop l.package-index l.packages)) ≡ map (digest_at l.ids l.digests) (package_ids l.packages)
