use Rattle.std.proofs.Common.{◌≡◌, ◌++◌, drop}
use Rattle.pn_dep_paths.specs.Steps.{row_edges}
use Rattle.pn_dep_paths.proofs.edges.push_edges.Given as goal

abbrev pub invariant-loop-p : goal.invariant-loop-p
invariant-loop-p l = l.edges.items ++ row_edges l.pairs l.from (drop l.p-index l.row) ≡ l.fn.edges.items ++ row_edges l.pairs l.from l.row
