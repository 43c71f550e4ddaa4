use Rattle.std.proofs.Common.{◌≡◌, ◌++◌, drop, map}
use Rattle.pn_locking.specs.Asks.{asked_by}
use Rattle.pn_locking.specs.Projects.{project_of}
use Rattle.pn_locking.proofs.folders.asked_projects.Given as goal

abbrev pub invariant-loop-project : goal.invariant-loop-project
invariant-loop-project l = l.all ++ map (asked_by l.auto_peers) (map project_of (drop l.project-index l.projects)) ≡ map (asked_by l.auto_peers) (map project_of l.projects)
