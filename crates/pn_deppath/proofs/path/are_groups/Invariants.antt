use Rattle.std.proofs.Common.{◌≡◌, ◌≤◌, drop}
use Rattle.pn_deppath.specs.Paths.{are_groups}
use Rattle.pn_deppath.proofs.path.are_groups.Given as goal

abbrev pub invariant-loop-b : goal.invariant-loop-b
invariant-loop-b l = record {
  rest : are_groups l.level (drop l.b-index l.text) ≡ are_groups 0 l.text;
  few : l.level ≤ l.b-index;
}
