use Rattle.std.proofs.Common.{◌≡◌, drop}
use Rattle.pn_graph.specs.Lookups.{auto_at}
use Rattle.pn_graph.proofs.find.find_auto.Given as goal

abbrev pub invariant-loop-auto : goal.invariant-loop-auto
invariant-loop-auto l = auto_at l.name (drop l.auto-index l.autos) ≡ auto_at l.name l.autos
