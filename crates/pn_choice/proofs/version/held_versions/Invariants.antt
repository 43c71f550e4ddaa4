use Rattle.std.proofs.Common.{◌≡◌, ◌++◌, map, drop}
use Rattle.semver.specs.Identifiers.{parts_of}
use Rattle.pn_plain.specs.Given.{held_of}
use Rattle.pn_choice.specs.Given.{held_by}
use Rattle.pn_choice.proofs.version.held_versions.Given as goal

abbrev pub invariant-loop-id : goal.invariant-loop-id
invariant-loop-id l = map parts_of l.versions.items ++ held_of l.name (held_by (drop l.id-index l.held)) ≡ held_of l.name (held_by l.held)
