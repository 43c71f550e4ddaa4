use Rattle.std.proofs.Common.{◌≡◌, map, option_map, take}
use Rattle.semver.specs.Identifiers.{parts_of}
use Rattle.pn_published.specs.Versions.{same_version}
use Rattle.pn_published.specs.Places.{last_place}
use Rattle.pn_published.specs.Listed.{number}
use Rattle.pn_published.proofs.shelf.place_of.Given as goal

abbrev pub invariant-loop-at : goal.invariant-loop-at
invariant-loop-at l = option_map number l.last ≡ last_place (λ u. same_version u (parts_of l.version)) (map parts_of (take l.at l.versions))
