-- A small graph: the project and a@1.0.0 depend on b@1.0.0.
use Rattle.std.specs.Prelude.{List, [], ◌∷◌, codes, false}
use Rattle.pn_graph.specs.declared.links.At.TheVariants.{Package as at_package}
use Rattle.pn_graph.specs.declared.links.Dep.{Dep}
use Rattle.pn_graph.specs.declared.links.Package.{Package}
use Rattle.pn_graph.specs.declared.links.Project.{Project}

abbrev pub on_b : Dep
on_b = record { alias = codes "b"; specifier = codes "1"; to = at_package (record { 0 = 1 }); optional = false }

abbrev pub packages : List Package
packages = record { id = codes "a@1.0.0"; deps = on_b ∷ []; peers = [] } ∷ record { id = codes "b@1.0.0"; deps = []; peers = [] } ∷ []

abbrev pub project : Project
project = record { folder = codes "."; deps = on_b ∷ []; autos = [] }
