use Rattle.std.proofs.Common.{◌≡◌, drop, map}
use Rattle.pn_asked.specs.Rows.{first_missing}
use Rattle.pn_asked.proofs.rows.first_missing.Given as goal

abbrev pub invariant-loop-item : goal.invariant-loop-item
invariant-loop-item g l = first_missing (map g.A.Keyed.key (drop l.item-index l.these)) (map g.B.Keyed.key l.those) ≡ first_missing (map g.A.Keyed.key l.fn.these) (map g.B.Keyed.key l.fn.those)
