use Rattle.std.proofs.Common.{◌≡◌, ◌++◌, drop}
use Rattle.pn_lock_make.specs.Entries.{uses_in}
use Rattle.pn_lock_make.proofs.catalogs.push_uses.Given as goal

abbrev pub invariant-loop-dep : goal.invariant-loop-dep
invariant-loop-dep l = l.uses.items ++ uses_in l.plain.packages (drop l.dep-index l.deps) ≡ l.fn.uses.items ++ uses_in l.plain.packages l.deps
