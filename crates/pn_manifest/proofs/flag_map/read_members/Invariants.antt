use Rattle.std.proofs.Common.{◌≡◌, ◌++◌}
use Rattle.serde_json.specs.View.{members_view}
use Rattle.pn_manifest.specs.FlagMaps.{flagged, is_flagged}
use Rattle.pn_manifest.specs.Values.{first_bad}
use Rattle.pn_manifest.proofs.flag_map.read_members.Given as goal

-- what is left leads from what was read to the whole
abbrev pub invariant-loop-name : goal.invariant-loop-name
invariant-loop-name l = record {
  read : l.all.items ++ flagged l.flag (members_view l.name-iterator) ≡ flagged l.flag (members_view l.members.entries);
  bad : first_bad (is_flagged l.flag) (members_view l.name-iterator) ≡ first_bad (is_flagged l.flag) (members_view l.members.entries);
}
