use Rattle.std.proofs.Common.{◌≡◌, map, take}
use Rattle.pn_package.specs.Listed.{pair_of}
use Rattle.pn_package.proofs.links.copied.Given as goal

abbrev pub invariant-loop-link : goal.invariant-loop-link
invariant-loop-link l = map pair_of l.all.items ≡ map pair_of (take l.link-index l.links)
