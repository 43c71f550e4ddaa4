use Rattle.std.proofs.Common.{◌≡◌, ◌++◌, drop}
use Rattle.pn_lock_read.proofs.settle.copy_names.Given as goal

-- the names so far, and those that are left
abbrev pub invariant-loop-name : goal.invariant-loop-name
invariant-loop-name l = l.all ++ drop l.name-index l.names ≡ l.fn.names
