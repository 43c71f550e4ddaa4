-- Look-ups in a plain graph.
use Rattle.std.specs.Prelude.{ℕ, List, [], ◌∷◌, Option, Some, None, if◌then◌else◌, slice_get}
use Rattle.std.specs.Str.{bytes_eq}
use Rattle.pn_text.specs.declared.index.PkgIx.{PkgIx}
use Rattle.pn_graph.specs.Graphs.{At, to_project, to_package, Dep, Auto, Project, Package, Peer}

-- where an alias leads
abbrev pub dep_at : List ℕ → List Dep → Option At
dep_at alias [] = None
dep_at alias (d ∷ ds) = if bytes_eq d.alias alias then Some d.to else dep_at alias ds

-- the package of an automatic peer
abbrev pub auto_at : List ℕ → List Auto → Option PkgIx
auto_at name [] = None
auto_at name (a ∷ rest) = if bytes_eq a.name name then Some a.to else auto_at name rest

abbrev pub project_deps : Option Project → List Dep
project_deps None = []
project_deps (Some p) = p.deps

abbrev pub project_autos : Option Project → List Auto
project_autos None = []
project_autos (Some p) = p.autos

abbrev pub package_deps : Option Package → List Dep
package_deps None = []
package_deps (Some p) = p.deps

abbrev pub package_peers : Option Package → List Peer
package_peers None = []
package_peers (Some p) = p.peers

abbrev pub package_id : Option Package → List ℕ
package_id None = []
package_id (Some p) = p.id

-- the dependencies of a node
abbrev pub deps_at : List Project → List Package → At → List Dep
deps_at projects packages (to_project q) = project_deps (slice_get projects q.0)
deps_at projects packages (to_package k) = package_deps (slice_get packages k.0)
