use Rattle.std.proofs.Common.{◌≡◌, drop}
use Rattle.std.specs.List.{list_all}
use Rattle.pn_outer.specs.Instances.{are_there}
use Rattle.pn_outer.proofs.range.all_there.Given as goal

abbrev pub invariant-loop-instance : goal.invariant-loop-instance
invariant-loop-instance l = list_all (are_there l.count l.projects) (drop l.instance-index l.instances) ≡ list_all (are_there l.count l.projects) l.instances
