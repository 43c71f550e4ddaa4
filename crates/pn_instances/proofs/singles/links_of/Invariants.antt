use Rattle.std.proofs.Common.{◌≡◌, map, take}
use Rattle.pn_instances.specs.Singles.{link_of}
use Rattle.pn_instances.proofs.singles.links_of.Given as goal

abbrev pub invariant-loop-dep : goal.invariant-loop-dep
invariant-loop-dep l = l.links.items ≡ map link_of (take l.dep-index l.deps)
