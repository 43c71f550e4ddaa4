use Rattle.std.proofs.Common.{◌≡◌, ◌++◌, drop}
use Rattle.pn_components.specs.Rows.{rows_of}
use Rattle.pn_dep_paths.specs.Steps.{edges_from}
use Rattle.pn_dep_paths.proofs.edges.edges.Given as goal

abbrev pub invariant-loop-i : goal.invariant-loop-i
invariant-loop-i l = l.edges.items ++ edges_from l.pairs l.i (drop l.i (rows_of l.rows)) ≡ edges_from l.pairs 0 (rows_of l.rows)
