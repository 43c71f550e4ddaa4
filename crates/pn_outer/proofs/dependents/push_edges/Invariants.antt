use Rattle.std.proofs.Common.{◌≡◌, ◌++◌, drop}
use Rattle.pn_outer.specs.Dependents.{edges_of}
use Rattle.pn_outer.proofs.dependents.push_edges.Given as goal

abbrev pub invariant-loop-link : goal.invariant-loop-link
invariant-loop-link l = l.edges.items ++ edges_of l.from (drop l.link-index l.links) ≡ l.fn.edges.items ++ edges_of l.from l.links
