use Rattle.std.proofs.Common.{◌≡◌, drop}
use Rattle.std.specs.List.{list_all}
use Rattle.pn_outer.specs.Instances.{is_there}
use Rattle.pn_outer.proofs.range.links_there.Given as goal

abbrev pub invariant-loop-link : goal.invariant-loop-link
invariant-loop-link l = list_all (is_there l.count l.projects) (drop l.link-index l.links) ≡ list_all (is_there l.count l.projects) l.links
