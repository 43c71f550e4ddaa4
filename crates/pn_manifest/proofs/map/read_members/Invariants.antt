use Rattle.std.proofs.Common.{◌≡◌, ◌++◌, map}
use Rattle.serde_json.specs.View.{members_view}
use Rattle.pn_manifest.specs.Listed.{pair_of}
use Rattle.pn_manifest.specs.TextMaps.{is_dependency, pairs}
use Rattle.pn_manifest.specs.Values.{first_bad}
use Rattle.pn_manifest.proofs.map.read_members.Given as goal

-- what is left leads from what was read to the whole
abbrev pub invariant-loop-name : goal.invariant-loop-name
invariant-loop-name l = record {
  read : map pair_of l.all.items ++ pairs (members_view l.name-iterator) ≡ pairs (members_view l.members.entries);
  bad : first_bad is_dependency (members_view l.name-iterator) ≡ first_bad is_dependency (members_view l.members.entries);
}
