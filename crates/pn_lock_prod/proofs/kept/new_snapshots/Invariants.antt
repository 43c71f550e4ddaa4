use Rattle.std.proofs.Common.{◌≡◌, ◌++◌, drop}
use Rattle.pn_lock_prod.specs.Kept.{new_snapshots}
use Rattle.pn_lock_prod.proofs.kept.new_snapshots.Given as goal

-- what is left completes what was made
abbrev pub invariant-loop-n : goal.invariant-loop-n
invariant-loop-n l = l.all ++ new_snapshots l.numbers (drop l.n l.marks) (drop l.n l.these) ≡ new_snapshots l.numbers l.marks l.these
