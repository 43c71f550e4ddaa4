use Rattle.std.proofs.Common.{◌≡◌, ◌++◌, drop}
use Rattle.pn_yaml_print.specs.PrintedScalars.{escaped}
use Rattle.pn_yaml_print.proofs.word.push_escaped.Given as goal

abbrev pub invariant-loop-b : goal.invariant-loop-b
invariant-loop-b l = l.out.items ++ escaped (drop l.b-index l.text) ≡ l.initial.out.items ++ escaped l.text
