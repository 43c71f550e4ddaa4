use Rattle.std.proofs.Common.{◌≡◌, drop}
use Rattle.std.specs.List.{list_any}
use Rattle.pn_lock_make.specs.PassedOn.{has_peers}
use Rattle.pn_lock_make.proofs.passed.any_peers.Given as goal

abbrev pub invariant-loop-package : goal.invariant-loop-package
invariant-loop-package l = list_any has_peers (drop l.package-index l.packages) ≡ list_any has_peers l.packages
