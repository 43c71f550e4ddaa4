use Rattle.std.proofs.Common.{◌≡◌, ◌++◌}
use Rattle.pn_config.proofs.overrides.items_of.Given as goal

abbrev pub invariant-loop-pair : goal.invariant-loop-pair
invariant-loop-pair l = l.items.items ++ l.pair-iterator ≡ l.fn.all.entries
