use Rattle.std.proofs.Common.{◌≡◌, drop}
use Rattle.pn_yaml_print.specs.PlainRun.{stays_plain}
use Rattle.pn_yaml_print.proofs.word.stays_plain.Given as goal

abbrev pub invariant-loop-b : goal.invariant-loop-b
invariant-loop-b l = stays_plain l.flow l.before (drop l.b-index l.text) ≡ stays_plain l.flow 0 l.text
