use Rattle.std.proofs.Common.{◌≡◌, drop}
use Rattle.pn_outer.specs.Instances.{has_alias}
use Rattle.pn_outer.proofs.instance.has_alias.Given as goal

abbrev pub invariant-loop-link : goal.invariant-loop-link
invariant-loop-link l = has_alias l.name (drop l.link-index l.links) ≡ has_alias l.name l.links
