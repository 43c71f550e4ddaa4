-- The projects of a lock.
use Rattle.std.specs.Prelude.{ℕ, suc, List, [], ◌∷◌, ◌++◌, Option, Some, None}
use Rattle.pn_lock.specs.declared.lists.LockDependency.{LockDependency}
use Rattle.pn_lock.specs.declared.lists.LockImporter.{LockImporter}
use Rattle.pn_asked.specs.declared.asked.AskedProject.{AskedProject}
use Rattle.pn_asked.specs.Rows.{Row}
use Rattle.pn_instances.specs.declared.goal.Goal.{Goal}
use Rattle.pn_instances.specs.declared.links.Link.{Link}
use Rattle.pn_instances.specs.Lookups.{goal_at, links_at}
use Rattle.pn_lock_make.specs.Targets.{lock_goal}

-- a name with its specifier and what it leads to; one that leads nowhere isn't there
abbrev pub dependency_of : List ℕ → Row → Option Goal → List LockDependency
dependency_of ranks r None = []
dependency_of ranks r (Some to) = record { alias = r.0; specifier = r.1; to = lock_goal ranks to } ∷ []

abbrev pub dependencies_of : List ℕ → List Link → List Row → List LockDependency
dependencies_of ranks links [] = []
dependencies_of ranks links (r ∷ rows) = dependency_of ranks r (goal_at r.0 links) ++ dependencies_of ranks links rows

abbrev pub importer_of : List ℕ → List Link → AskedProject → LockImporter
importer_of ranks links p = record {
  folder = p.folder;
  dependencies = dependencies_of ranks links p.dependencies;
  dev = dependencies_of ranks links p.dev;
  optional = dependencies_of ranks links p.optional;
}

-- the projects from a place on, with the links of each
abbrev pub importers_from : List ℕ → List (List Link) → ℕ → List AskedProject → List LockImporter
importers_from ranks roots n [] = []
importers_from ranks roots n (p ∷ ps) = importer_of ranks (links_at roots n) p ∷ importers_from ranks roots (suc n) ps
