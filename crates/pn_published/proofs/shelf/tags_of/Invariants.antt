use Rattle.std.proofs.Common.{◌≡◌, ◌++◌, map, drop}
use Rattle.semver.specs.Identifiers.{parts_of}
use Rattle.pn_published.specs.Tags.{tags_of}
use Rattle.pn_published.specs.Listed.{tagged, said}
use Rattle.pn_published.proofs.shelf.tags_of.Given as goal

abbrev pub invariant-loop-one : goal.invariant-loop-one
invariant-loop-one l = map tagged l.all.items ++ tags_of (map parts_of l.versions) (map said (drop l.one-index l.texts)) ≡ tags_of (map parts_of l.versions) (map said l.texts)
