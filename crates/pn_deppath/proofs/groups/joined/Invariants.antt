use Rattle.std.proofs.Common.{◌≡◌, ◌++◌, drop, string_bytes}
use Rattle.pn_deppath.specs.Groups.{joined}
use Rattle.pn_deppath.proofs.groups.joined.Given as goal

abbrev pub invariant-loop-group : goal.invariant-loop-group
invariant-loop-group l = string_bytes l.text ++ joined (drop l.group-index l.groups) ≡ joined l.groups
