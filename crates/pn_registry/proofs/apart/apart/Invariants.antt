use Rattle.std.specs.Vec.Iter.{into_iter_items}
use Rattle.pn_registry.proofs.Keeping.{KeepingOf}
use Rattle.pn_registry.proofs.apart.apart.Given as goal

abbrev pub invariant-loop-file : goal.invariant-loop-file
invariant-loop-file l = KeepingOf l.yielded (into_iter_items l.file-iterator) l.kept.items
