use Rattle.std.proofs.Common.{◌≡◌, drop}
use Rattle.pn_asked.specs.Differences.{specifier_differs}
use Rattle.pn_asked.proofs.projects.specifier_differs.Given as goal

abbrev pub invariant-loop-importer : goal.invariant-loop-importer
invariant-loop-importer l = specifier_differs (drop l.importer-index l.importers) l.projects ≡ specifier_differs l.fn.importers l.fn.projects
