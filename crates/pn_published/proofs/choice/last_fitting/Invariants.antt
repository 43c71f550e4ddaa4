use Rattle.std.proofs.Common.{◌≡◌, map, option_map, take}
use Rattle.semver.specs.Identifiers.{parts_of}
use Rattle.pn_published.specs.Choice.{fits}
use Rattle.pn_published.specs.Listed.{number}
use Rattle.pn_published.specs.Places.{last_place}
use Rattle.pn_published.proofs.choice.last_fitting.Given as goal

abbrev pub invariant-loop-at : goal.invariant-loop-at
invariant-loop-at l = option_map number l.last ≡ last_place (fits l.ranges) (map parts_of (take l.at l.versions))
