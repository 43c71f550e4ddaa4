use Rattle.std.proofs.Common.{take}
use Rattle.pn_shape.specs.Shapes.{ArePeersOf}
use Rattle.pn_shape.proofs.nodes.peers.Given as goal

abbrev pub invariant-loop-one : goal.invariant-loop-one
invariant-loop-one l = ArePeersOf (take l.one-index l.said) l.items.items
