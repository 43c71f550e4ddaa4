use Rattle.std.proofs.Common.{◌≡◌, ◌++◌, drop}
use Rattle.pn_locking.specs.Asks.{is_dev, rows_where}
use Rattle.pn_locking.proofs.split.for_development.Given as goal

abbrev pub invariant-loop-wish : goal.invariant-loop-wish
invariant-loop-wish l = l.rows ++ rows_where (is_dev l.dev) (drop l.wish-index l.wish-items) ≡ rows_where (is_dev l.dev) l.wish-items
