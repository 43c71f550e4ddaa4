use Rattle.std.proofs.Common.{◌≡◌, drop}
use Rattle.std.specs.List.{find}
use Rattle.pn_asked.specs.Differences.{first_optional, is_lost}
use Rattle.pn_asked.specs.Rows.{keys}
use Rattle.pn_asked.proofs.projects.first_optional.Given as goal

abbrev pub invariant-loop-name : goal.invariant-loop-name
invariant-loop-name l = find (is_lost l.importer l.rows) (keys (drop l.name-index l.rows)) ≡ first_optional l.fn.importer l.fn.rows
