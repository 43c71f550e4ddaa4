use Rattle.std.proofs.Common.{◌≡◌, take}
use Rattle.pn_lock_prod.proofs.copies.overrides.Given as goal

abbrev pub invariant-loop-rule : goal.invariant-loop-rule
invariant-loop-rule l = l.all ≡ take l.rule-index l.rules
