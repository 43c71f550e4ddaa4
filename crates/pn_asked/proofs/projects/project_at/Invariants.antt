use Rattle.std.proofs.Common.{◌≡◌, drop}
use Rattle.pn_asked.specs.Differences.{project_at}
use Rattle.pn_asked.proofs.projects.project_at.Given as goal

abbrev pub invariant-loop-project : goal.invariant-loop-project
invariant-loop-project l = project_at l.folder (drop l.project-index l.projects) ≡ project_at l.fn.folder l.fn.projects
