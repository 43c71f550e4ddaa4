use Rattle.std.proofs.Common.{◌≡◌, map, drop}
use Rattle.pn_published.specs.Listed.{tagged}
use Rattle.pn_published.specs.Tags.{tag_at}
use Rattle.pn_choice.proofs.version.tag_at.Given as goal

abbrev pub invariant-loop-one : goal.invariant-loop-one
invariant-loop-one l = tag_at l.tag (map tagged (drop l.one-index l.tags)) ≡ tag_at l.tag (map tagged l.tags)
