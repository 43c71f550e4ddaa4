use Rattle.std.proofs.Common.{◌≡◌, ◌+◌, drop}
use Rattle.pn_yaml.specs.Bytes.{indentation}
use Rattle.pn_yaml.proofs.spaces.indentation.Given as goal

abbrev pub invariant-loop-i : goal.invariant-loop-i
invariant-loop-i l = indentation l.text ≡ l.i + indentation (drop l.i l.text)
