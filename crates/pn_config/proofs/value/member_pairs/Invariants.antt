use Rattle.std.proofs.Common.{◌≡◌, List, ◌++◌, drop, Some, None}
use Rattle.pn_yaml.specs.View.{members_view}
use Rattle.pn_config.specs.Values.{Pair, member_pairs}
use Rattle.pn_config.proofs.value.member_pairs.Given as goal

-- what is left leads from the pairs so far to the whole
abbrev pub invariant-loop-key : goal.invariant-loop-key
invariant-loop-key l = record {
  left : (rest : List Pair) → member_pairs (members_view (drop l.key-index l.members)) ≡ Some rest → member_pairs (members_view l.members) ≡ Some (l.pairs ++ rest);
  bad : member_pairs (members_view (drop l.key-index l.members)) ≡ None → member_pairs (members_view l.members) ≡ None;
}
