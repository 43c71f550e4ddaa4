use Rattle.std.proofs.Common.{◌≡◌, ◌+◌, drop}
use Rattle.pn_lock_print.specs.Runs.{run_of}
use Rattle.pn_lock_print.proofs.catalogs.run_of.Given as goal

abbrev pub invariant-loop-i : goal.invariant-loop-i
invariant-loop-i l = l.i + run_of l.catalog (drop l.i l.entries) ≡ run_of l.catalog l.entries
