-- Instances as outer pairs are asked of them.
use Rattle.std.specs.Prelude.{ℕ, List, [], ◌∷◌, Bool, if◌then◌else◌, map, slice_get}
use Rattle.pn_text.specs.declared.index.PkgIx.{PkgIx}
use Rattle.pn_graph.specs.declared.links.Package.{Package}
use Rattle.pn_graph.specs.declared.links.Project.{Project}
use Rattle.pn_graph.specs.Graphs.{aliases, has_name}
use Rattle.pn_graph.specs.Lookups.{package_deps, package_id}
use Rattle.pn_instances.specs.declared.goal.Goal.{Goal as AnyGoal}
use Rattle.pn_instances.specs.declared.goal.Goal.TheVariants.{Project as any_project, Inst as any_instance}
use Rattle.pn_instances.specs.declared.links.Link.{Link as AnyLink}
use Rattle.pn_outer.specs.declared.instance.Goal.{Goal}
use Rattle.pn_outer.specs.declared.instance.Goal.TheVariants.{Project as to_project, Inst as to_instance}
use Rattle.pn_outer.specs.declared.instance.Instance.{Instance}
use Rattle.pn_outer.specs.declared.instance.Link.{Link}

abbrev pub outer_goal : AnyGoal → Goal
outer_goal (any_project q) = to_project q
outer_goal (any_instance j) = to_instance j

abbrev pub outer_link : AnyLink → Link
outer_link l = record { name = l.name; to = outer_goal l.to }

-- the package has a dependency of that alias
abbrev pub is_alias : List Package → PkgIx → List ℕ → Bool
is_alias packages k name = has_name name (aliases (package_deps (slice_get packages k.0)))

-- the links whose names are aliases, and the others, which are those of provided peers
abbrev pub alias_links : List Package → PkgIx → List AnyLink → List Link
alias_links packages k [] = []
alias_links packages k (l ∷ ls) = if is_alias packages k l.name then outer_link l ∷ alias_links packages k ls else alias_links packages k ls

abbrev pub peer_links : List Package → PkgIx → List AnyLink → List Link
peer_links packages k [] = []
peer_links packages k (l ∷ ls) = if is_alias packages k l.name then peer_links packages k ls else outer_link l ∷ peer_links packages k ls

-- the instance of a package with some links
abbrev pub outer_of : List Package → PkgIx → List AnyLink → Instance
outer_of packages k links = record { id = package_id (slice_get packages k.0); deps = alias_links packages k links; peers = peer_links packages k links }

abbrev pub outer_instances : List Package → List PkgIx → List (List AnyLink) → List Instance
outer_instances packages [] lists = []
outer_instances packages (k ∷ ks) [] = []
outer_instances packages (k ∷ ks) (links ∷ lists) = outer_of packages k links ∷ outer_instances packages ks lists

abbrev pub folders_of : List Project → List (List ℕ)
folders_of projects = map (λ (q : Project). q.folder) projects
