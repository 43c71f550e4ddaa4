use Rattle.std.proofs.Common.{◌≡◌, drop, map}
use Rattle.pn_asked.specs.Rows.{at_key}
use Rattle.pn_asked.proofs.rows.value_at.Given as goal

abbrev pub invariant-loop-row : goal.invariant-loop-row
invariant-loop-row g l = at_key l.key (map g.A.Rowed.pair (drop l.row-index l.rows)) ≡ at_key l.fn.key (map g.A.Rowed.pair l.fn.rows)
