-- What the value of a walk's end is, in the walk's own words.
use Rattle.std.specs.Prelude.{◌≡◌, ℕ, List, length, Some}
use Rattle.std.specs.List.{Contains}
use Rattle.pn_graph.specs.Lookups.{deps_at}
use Rattle.pn_graph.specs.declared.links.Dep.{Dep}
use Rattle.pn_graph.specs.declared.links.Package.{Package}
use Rattle.pn_graph.specs.declared.links.Project.{Project}
use Rattle.pn_walk.specs.declared.wish.Place.{Place}
use Rattle.pn_walk.specs.Walks.{Link, State}
use Rattle.pn_shape.specs.Shapes.{at_of, IsShape}
use Rattle.pn_shape.specs.Fits.{IsPlace}

-- The dependency is an edge that the node asked for and that leads somewhere.
pub record IsTaken (links : List Link) (who : Place) (d : Dep) : Type 0 where
  pub link : Link
  pub has : Contains links link
  pub asks : link.turn.who ≡ who
  pub place : Place
  pub leads : link.to ≡ Some place
  pub to : d.to ≡ at_of place
  pub alias : d.alias ≡ link.turn.wish.alias
  pub specifier : d.specifier ≡ link.turn.wish.specifier
  pub optional : d.optional ≡ link.turn.wish.optional

-- A walk's end has one value. The dependencies of each of its nodes are exactly the edges that it asked for and that lead
-- somewhere.
pub record ShapeLaw : Type 0 where
  pub one_projects : (folders : List (List ℕ)) (t : State) (ps qs : List Project) (ks ns : List Package) → IsShape folders t ps ks → IsShape folders t qs ns → ps ≡ qs
  pub one_packages : (folders : List (List ℕ)) (t : State) (ps qs : List Project) (ks ns : List Package) → IsShape folders t ps ks → IsShape folders t qs ns → ks ≡ ns
  pub sound : (folders : List (List ℕ)) (t : State) (ps : List Project) (ks : List Package) (who : Place) (d : Dep) → IsShape folders t ps ks → Contains (deps_at ps ks (at_of who)) d → IsTaken t.links who d
  pub complete : (folders : List (List ℕ)) (t : State) (ps : List Project) (ks : List Package) (who : Place) (d : Dep) → IsShape folders t ps ks → IsPlace (length folders) (length t.met) who → IsTaken t.links who d
      → Contains (deps_at ps ks (at_of who)) d
