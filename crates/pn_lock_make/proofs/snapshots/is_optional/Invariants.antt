use Rattle.std.proofs.Common.{◌≡◌, drop}
use Rattle.pn_lock_make.specs.Snapshots.{is_optional}
use Rattle.pn_lock_make.proofs.snapshots.is_optional.Given as goal

abbrev pub invariant-loop-dep : goal.invariant-loop-dep
invariant-loop-dep l = is_optional (drop l.dep-index l.deps) l.name ≡ is_optional l.deps l.name
