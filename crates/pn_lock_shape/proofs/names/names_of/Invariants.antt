use Rattle.std.proofs.Common.{◌≡◌, drop}
use Rattle.pn_lock_shape.specs.Bare.{tree_items}
use Rattle.pn_lock_shape.specs.Reading.{names_in}
use Rattle.pn_lock_shape.proofs.EntryLemmas.{and_all}
use Rattle.pn_lock_shape.proofs.names.names_of.Given as goal

-- what is left leads from what was read to the whole
abbrev pub invariant-loop-node : goal.invariant-loop-node
invariant-loop-node l = and_all l.names.items (names_in (tree_items (drop l.node-index l.nodes))) ≡ names_in (tree_items l.fn.nodes)
