use Rattle.std.proofs.Common.{◌≡◌, ◌++◌, drop, map}
use Rattle.pn_lock_print.proofs.tests.names.Given as goal

abbrev pub invariant-loop-text : goal.invariant-loop-text
invariant-loop-text l = l.items ++ map (λ t. t.now) (drop l.text-index l.texts) ≡ map (λ t. t.now) l.fn.texts
