use Rattle.std.proofs.Common.{◌≡◌, length}
use Rattle.pn_yaml.specs.Cursor.{rows_left}
use Rattle.pn_yaml.specs.Literals.{filled}
use Rattle.pn_yaml.proofs.literal.filled.Given as goal

abbrev pub invariant-lines : goal.invariant-lines
invariant-lines l = filled (rows_left l.rows) ≡ filled (rows_left l.fn.rows)

abbrev pub decreases-lines : goal.decreases-lines
decreases-lines l = length (rows_left l.rows)
