use Rattle.std.proofs.Common.{◌∙◌, sym}
use Rattle.pn_yaml.specs.Cursor.{rows_left, row_of}
use Rattle.pn_yaml.proofs.LineEnds.{first_ahead_same}
use Rattle.pn_yaml.proofs.rows.first_ahead.Goals as goal

pub returns-else-is_three : goal.returns-else-is_three
returns-else-is_three c =
    rw (first_ahead_same (rows_left c.args.rows) (row_of c.in-Some.front.line) (rows_left c.in-Some.front.below) (sym c.in-Some.ensures) (sym c.is_three.ensures ∙ c.if-is_three.false)) c.met.ensures
