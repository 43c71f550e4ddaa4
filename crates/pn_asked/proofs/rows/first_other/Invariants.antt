use Rattle.std.proofs.Common.{◌≡◌, drop, map}
use Rattle.std.specs.Prelude.{not}
use Rattle.std.specs.List.{find}
use Rattle.pn_asked.specs.Rows.{agree, at_key, first_other, keys}
use Rattle.pn_asked.proofs.rows.first_other.Given as goal

abbrev pub invariant-loop-row : goal.invariant-loop-row
invariant-loop-row g l =
    find (λ k. not (agree (at_key k (map g.A.Rowed.pair l.these)) (at_key k (map g.B.Rowed.pair l.those)))) (keys (map g.A.Rowed.pair (drop l.row-index l.these)))
    ≡ first_other (map g.A.Rowed.pair l.fn.these) (map g.B.Rowed.pair l.fn.those)
