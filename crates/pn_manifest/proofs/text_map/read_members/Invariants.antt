use Rattle.std.proofs.Common.{◌≡◌, ◌++◌, map}
use Rattle.serde_json.specs.View.{members_view}
use Rattle.pn_manifest.specs.Listed.{entry_pair}
use Rattle.pn_manifest.specs.TextMaps.{is_entry, pairs}
use Rattle.pn_manifest.specs.Values.{first_bad}
use Rattle.pn_manifest.proofs.text_map.read_members.Given as goal

-- what is left leads from what was read to the whole
abbrev pub invariant-loop-key : goal.invariant-loop-key
invariant-loop-key l = record {
  read : map entry_pair l.all.items ++ pairs (members_view l.key-iterator) ≡ pairs (members_view l.members.entries);
  bad : first_bad is_entry (members_view l.key-iterator) ≡ first_bad is_entry (members_view l.members.entries);
}
