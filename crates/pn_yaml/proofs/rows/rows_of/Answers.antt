use Rattle.std.proofs.Common.{ap, List, ℕ}
use Rattle.pn_yaml.specs.Cursor.{rows_left}
use Rattle.pn_yaml.specs.Rows.{lines_of, numbered, unreturned}
use Rattle.pn_yaml.proofs.rows.rows_of.Goals as goal

pub returns : goal.returns
unfolding rows_left
returns c = ap (λ (t : List ℕ). numbered 1 (lines_of (unreturned t))) c.unmarked.ensures.text
