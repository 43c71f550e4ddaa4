use Rattle.std.proofs.Common.{◌≡◌, length}
use Rattle.std.specs.Prelude.{string_bytes}
use Rattle.pn_yaml.specs.Blocks.{scalar_lines}
use Rattle.pn_yaml.specs.Cursor.{rows_left}
use Rattle.pn_yaml.specs.Literals.{added}
use Rattle.pn_yaml.proofs.literal.add_lines.Given as goal

abbrev pub invariant-lines : goal.invariant-lines
invariant-lines l = added l.between (string_bytes l.text) (scalar_lines l.indent l.width (rows_left l.rows))
    ≡ added l.between (string_bytes l.fn.text) (scalar_lines l.indent l.width (rows_left l.fn.rows))

abbrev pub decreases-lines : goal.decreases-lines
decreases-lines l = length (rows_left l.rows)
