use Rattle.std.proofs.Common.{◌≡◌, ◌&&◌, map, option_map, take}
use Rattle.semver.specs.Identifiers.{parts_of}
use Rattle.pn_published.specs.Choice.{fits, is_held}
use Rattle.pn_published.specs.Listed.{number}
use Rattle.pn_published.specs.Places.{last_place}
use Rattle.pn_published.proofs.choice.last_held.Given as goal

abbrev pub invariant-loop-at : goal.invariant-loop-at
invariant-loop-at l = option_map number l.last ≡ last_place (λ v. fits l.ranges v && is_held (map parts_of l.held) v) (map parts_of (take l.at l.versions))
