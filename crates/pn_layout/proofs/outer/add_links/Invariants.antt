use Rattle.std.proofs.Common.{map, take}
use Rattle.pn_package.specs.Listed.{pair_of}
use Rattle.pn_tree.specs.Drawn.{Draws}
use Rattle.pn_layout.specs.Places.{link_leaf}
use Rattle.pn_layout.proofs.outer.add_links.Given as goal

abbrev pub invariant-loop-link : goal.invariant-loop-link
invariant-loop-link l = Draws l.fn.draft l.draft (map (link_leaf l.modules) (map pair_of (take l.link-index l.direct)))
