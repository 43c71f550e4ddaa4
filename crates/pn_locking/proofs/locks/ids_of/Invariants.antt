use Rattle.std.proofs.Common.{◌≡◌, ◌++◌, drop}
use Rattle.pn_wanted.specs.Wanted.{ids_of}
use Rattle.pn_locking.proofs.locks.ids_of.Given as goal

abbrev pub invariant-loop-one : goal.invariant-loop-one
invariant-loop-one l = l.ids.items ++ ids_of (drop l.one-index l.wanted) ≡ ids_of l.wanted
