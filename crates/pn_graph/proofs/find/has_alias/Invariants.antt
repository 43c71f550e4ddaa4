use Rattle.std.proofs.Common.{◌≡◌, drop}
use Rattle.pn_graph.specs.Graphs.{aliases, has_name}
use Rattle.pn_graph.proofs.find.has_alias.Given as goal

abbrev pub invariant-loop-dep : goal.invariant-loop-dep
invariant-loop-dep l = has_name l.name (aliases (drop l.dep-index l.deps)) ≡ has_name l.name (aliases l.deps)
