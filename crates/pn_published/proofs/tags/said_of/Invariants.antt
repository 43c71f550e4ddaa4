use Rattle.std.proofs.Common.{◌≡◌, map}
use Rattle.serde_json.specs.View.{members_view}
use Rattle.pn_published.specs.Tags.{said_of}
use Rattle.pn_published.specs.Listed.{said}
use Rattle.pn_published.proofs.SaidLemmas.{onto_said}
use Rattle.pn_published.proofs.tags.said_of.Given as goal

-- what is left leads from what was read to the whole
abbrev pub invariant-loop-name : goal.invariant-loop-name
invariant-loop-name l = onto_said (map said l.all.items) (said_of (members_view l.name-iterator)) ≡ said_of (members_view l.members.entries)
