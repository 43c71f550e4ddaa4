use Rattle.std.proofs.Common.{◌≡◌, map, take}
use Rattle.pn_package.specs.Listed.{pair_of}
use Rattle.pn_layout.specs.Near.{near_home, top_to}
use Rattle.pn_layout.proofs.parts.tops_of.Given as goal

abbrev pub invariant-links : goal.invariant-links
invariant-links l = l.all.items ≡ map (top_to (near_home l.modules) l.modules) (map pair_of (take l.link-index l.direct))
