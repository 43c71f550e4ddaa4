use Rattle.std.proofs.Common.{◌≡◌, map, drop}
use Rattle.std.specs.Prelude.{codes}
use Rattle.pn_published.specs.Tags.{tag_at}
use Rattle.pn_published.specs.Listed.{tagged}
use Rattle.pn_published.proofs.shelf.tagged_latest.Given as goal

abbrev pub invariant-loop-tag : goal.invariant-loop-tag
invariant-loop-tag l = tag_at (codes "latest") (map tagged (drop l.tag-index l.tags)) ≡ tag_at (codes "latest") (map tagged l.tags)
