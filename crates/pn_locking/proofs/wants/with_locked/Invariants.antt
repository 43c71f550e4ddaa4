use Rattle.std.proofs.Common.{◌≡◌, ◌++◌, drop, map}
use Rattle.pn_locking.specs.Wants.{wanted_of}
use Rattle.pn_locking.proofs.wants.with_locked.Given as goal

abbrev pub invariant-loop-id : goal.invariant-loop-id
invariant-loop-id l = l.all.items ++ map (wanted_of l.packages) (drop l.id-index l.ids) ≡ map (wanted_of l.packages) l.ids
