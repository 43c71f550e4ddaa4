use Rattle.std.proofs.Common.{◌≡◌, ◌++◌, drop, map}
use Rattle.pn_lock_shape.specs.Bare.{tree_members}
use Rattle.pn_lock_shape.specs.Shapes.{each}
use Rattle.pn_lock_shape.proofs.EntryLemmas.{and_all}
use Rattle.pn_lock_shape.proofs.entry.read_entries.Given as goal

-- what is left leads from what was read to the whole
abbrev pub invariant-loop-name : goal.invariant-loop-name
invariant-loop-name g l = and_all l.all.items (each (g.E.Entry.form l.base (map g.E.Keyed.key l.seen ++ map g.E.Keyed.key l.later)) (tree_members (drop l.name-index l.entries)))
    ≡ each (g.E.Entry.form l.fn.base (map g.E.Keyed.key l.fn.seen ++ map g.E.Keyed.key l.fn.later)) (tree_members l.fn.entries)
