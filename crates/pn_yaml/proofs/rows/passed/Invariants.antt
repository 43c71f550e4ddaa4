use Rattle.std.proofs.Common.{◌≡◌, length}
use Rattle.pn_yaml.specs.Cursor.{rows_left}
use Rattle.pn_yaml.specs.Rows.{passed}
use Rattle.pn_yaml.proofs.rows.passed.Given as goal

abbrev pub invariant-lines : goal.invariant-lines
invariant-lines l = passed (rows_left l.rows) ≡ passed (rows_left l.fn.rows)

abbrev pub decreases-lines : goal.decreases-lines
decreases-lines l = length (rows_left l.rows)
