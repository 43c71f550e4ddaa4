use Rattle.std.proofs.Common.{◌≡◌, ◌++◌, drop}
use Rattle.pn_yaml_print.specs.PrintedScalars.{doubled}
use Rattle.pn_yaml_print.proofs.word.push_doubled.Given as goal

abbrev pub invariant-loop-b : goal.invariant-loop-b
invariant-loop-b l = l.out.items ++ doubled (drop l.b-index l.text) ≡ l.initial.out.items ++ doubled l.text
