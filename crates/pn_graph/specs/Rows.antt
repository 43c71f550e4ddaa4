-- A small graph, computed: its root depends on a and on a project q, a on b and q, b on a and c, q on p. A peer of c is an
-- automatic peer of the root.
use Rattle.std.specs.Prelude.{◌≡◌, ℕ, List, [], ◌∷◌, true, false, Some, None, codes, refl}
use Rattle.pn_text.specs.declared.index.ProjIx.{ProjIx}
use Rattle.pn_graph.specs.Graphs.{At, to_project, to_package, Dep, Auto, Project, Package, Peer, is_graph}
use Rattle.pn_graph.specs.Lookups.{dep_at, deps_at}

abbrev pub project : ℕ → At
project q = to_project (record { 0 = q })

abbrev pub package_at : ℕ → At
package_at k = to_package (record { 0 = k })

abbrev pub on : List ℕ → At → Dep
on alias to = record { alias = alias; specifier = codes "*"; to = to; optional = false }

abbrev pub peer : List ℕ → Peer
peer name = record { name = name; range = []; text = codes "*"; optional = true }

abbrev pub auto : List ℕ → ℕ → Auto
auto name k = record { name = name; to = record { 0 = k } }

abbrev pub top : ProjIx
top = record { 0 = 0 }

abbrev pub projects : List Project
projects =
    record { folder = codes "."; deps = on (codes "a") (package_at 0) ∷ on (codes "q") (project 1) ∷ []; autos = auto (codes "p") 3 ∷ [] }
    ∷ record { folder = codes "q"; deps = on (codes "p") (package_at 3) ∷ []; autos = [] }
    ∷ []

abbrev pub first_packages : List Package → List Package
first_packages rest =
    record { id = codes "a@1.0.0"; deps = on (codes "b") (package_at 1) ∷ on (codes "q") (project 1) ∷ []; peers = [] }
    ∷ record { id = codes "b@1.0.0"; deps = on (codes "a") (package_at 0) ∷ on (codes "c") (package_at 2) ∷ []; peers = [] }
    ∷ rest

abbrev pub last_packages : List Peer → List Package
last_packages peers =
    record { id = codes "c@1.0.0"; deps = []; peers = peers }
    ∷ record { id = codes "p@1.0.0"; deps = []; peers = [] }
    ∷ []

abbrev pub packages : List Package
packages = first_packages (last_packages (peer (codes "p") ∷ []))

pub whole : is_graph top projects packages ≡ true
whole = refl

pub found : dep_at (codes "q") (deps_at projects packages (package_at 0)) ≡ Some (project 1)
found = refl

pub absent : dep_at (codes "p") (deps_at projects packages (package_at 0)) ≡ None
absent = refl

-- a package with its own name as a peer
pub own_peer : is_graph top projects (first_packages (last_packages (peer (codes "c") ∷ []))) ≡ false
own_peer = refl

-- names that don't rise
pub falling : is_graph top projects (first_packages (last_packages (peer (codes "p") ∷ peer (codes "d") ∷ []))) ≡ false
falling = refl

-- a package that isn't there
pub beyond : is_graph top projects (first_packages []) ≡ false
beyond = refl

-- one id twice
pub twice : is_graph top projects (first_packages (first_packages (last_packages []))) ≡ false
twice = refl
