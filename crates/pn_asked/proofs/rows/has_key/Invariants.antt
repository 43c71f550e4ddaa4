use Rattle.std.proofs.Common.{◌≡◌, drop, map}
use Rattle.pn_asked.specs.Rows.{is_in}
use Rattle.pn_asked.proofs.rows.has_key.Given as goal

abbrev pub invariant-loop-item : goal.invariant-loop-item
invariant-loop-item g l = is_in (map g.A.Keyed.key (drop l.item-index l.items)) l.key ≡ is_in (map g.A.Keyed.key l.fn.items) l.fn.key
