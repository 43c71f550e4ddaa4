-- One instance of each package.
use Rattle.std.specs.Prelude.{ℕ, zero, suc, List, [], ◌∷◌, ◌++◌, map}
use Rattle.pn_text.specs.declared.index.PkgIx.{PkgIx}
use Rattle.pn_graph.specs.declared.links.At.{At}
use Rattle.pn_graph.specs.declared.links.At.TheVariants.{Project as at_project, Package as at_package}
use Rattle.pn_graph.specs.declared.links.Dep.{Dep}
use Rattle.pn_graph.specs.declared.links.Package.{Package}
use Rattle.pn_graph.specs.declared.links.Project.{Project}
use Rattle.pn_instances.specs.declared.goal.Goal.{Goal}
use Rattle.pn_instances.specs.declared.goal.Goal.TheVariants.{Project as to_project, Inst as to_inst}
use Rattle.pn_instances.specs.declared.links.Link.{Link}

-- the first places, that many
abbrev pub places : ℕ → List PkgIx
places zero = []
places (suc n) = places n ++ record { 0 = n } ∷ []

-- the instance of a package has the package's place
abbrev pub goal_of : At → Goal
goal_of (at_project q) = to_project q
goal_of (at_package k) = to_inst (record { 0 = k.0 })

abbrev pub link_of : Dep → Link
link_of d = record { name = d.alias; to = goal_of d.to }

abbrev pub links_of : List Dep → List Link
links_of deps = map link_of deps

abbrev pub package_links : Package → List Link
package_links p = links_of p.deps

abbrev pub project_links : Project → List Link
project_links p = links_of p.deps
