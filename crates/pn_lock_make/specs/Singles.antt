-- The lock of a graph without peers.
use Rattle.std.specs.Prelude.{◌≡◌, ℕ, List, length, map, true}
use Rattle.std.specs.List.{AllByRecursion}
use Rattle.pn_lock.specs.Folders.{is_folder}
use Rattle.pn_lock.specs.Locks.{Locked}
use Rattle.pn_asked.specs.declared.asked.AskedProject.{AskedProject}
use Rattle.pn_asked.specs.Asked.{AskedLists}
use Rattle.pn_graph.specs.declared.links.Package.{Package}
use Rattle.pn_graph.specs.declared.plain.Plain.{Plain}
use Rattle.pn_instances.specs.declared.instances.Instances.{Instances}
use Rattle.pn_instances.specs.Singles.{package_links, places, project_links}
use Rattle.pn_lock_make.specs.Made.{IsApart, IsMade}

-- the dep path of a package without peers is its id
abbrev pub package_ids : List Package → List (List ℕ)
package_ids packages = map (λ (q : Package). q.id) packages

-- one instance of each package, with the links that its dependencies are
pub record AreSingle (p : Plain) (i : Instances) : Type 0 where
  pub packages : i.packages ≡ places (length p.packages)
  pub links : i.links ≡ map package_links p.packages
  pub roots : i.roots ≡ map project_links p.projects

-- There is an integrity for each package, and the projects are those of the graph.
pub record BelongSingly (a : AskedLists) (p : Plain) (integrities : List (List ℕ)) : Type 0 where
  pub integrities_count : length integrities ≡ length p.packages
  pub projects_count : length a.projects ≡ length p.projects
  pub folders : AllByRecursion (λ (q : AskedProject). is_folder q.folder ≡ true) a.projects
  pub apart : AllByRecursion IsApart a.projects

-- The lock of a graph with one instance of each package.
pub record IsMadeSingly (a : AskedLists) (p : Plain) (integrities : List (List ℕ)) (l : Locked) : Type 0 where
  pub instances : Instances
  pub single : AreSingle p instances
  pub made : IsMade a p instances (package_ids p.packages) integrities l
