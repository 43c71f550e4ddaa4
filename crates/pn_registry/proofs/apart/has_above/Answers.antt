use Rattle.std.proofs.Common.{map, arith}
use Rattle.pn_registry.specs.Listed.{file_of}
use Rattle.pn_registry.proofs.Above.{none_above}
use Rattle.pn_registry.proofs.apart.has_above.Goals as goal

pub returns : goal.returns
returns c = none_above (map file_of c.args.files.now) c.args.text.now (λ k lt slash has. c.loop-i.invariant k (omega (arith, lt, c.loop-i-test.false)) slash has)
