use Rattle.std.proofs.Common.{◌≡◌, map, take}
use Rattle.pn_instances.specs.Singles.{project_links}
use Rattle.pn_instances.proofs.singles.links_of_projects.Given as goal

abbrev pub invariant-loop-project : goal.invariant-loop-project
invariant-loop-project l = l.lists.items ≡ map project_links (take l.project-index l.projects)
