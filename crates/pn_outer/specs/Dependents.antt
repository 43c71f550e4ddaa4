-- Who depends on each instance.
use Rattle.std.specs.Prelude.{◌≡◌, ◌<◌, ℕ, List, [], ◌∷◌, ◌++◌, length, get_or}
use Rattle.std.specs.List.{Contains}
use Rattle.pn_components.specs.Graphs.{Edges}
use Rattle.pn_components.specs.Rows.{AreWithin, LeadsIn}
use Rattle.pn_outer.specs.Instances.{Goal, Instance, Link, DependsOn, to_instance, to_project}

-- an edge from what a link leads to, back to where it begins
abbrev pub edge_of : ℕ → Goal → Edges
edge_of from (to_project q) = []
edge_of from (to_instance j) = (j.0, from) ∷ []

abbrev pub edges_of : ℕ → List Link → Edges
edges_of from [] = []
edges_of from (l ∷ ls) = edge_of from l.to ++ edges_of from ls

-- In the row of an instance are exactly those that depend on it.
pub record AreDependents (instances : List Instance) (rows : List (List ℕ)) : Type 0 where
  pub within : AreWithin rows
  pub right : (j i : ℕ) → LeadsIn rows j i → DependsOn instances i j
  pub all : (j i : ℕ) → DependsOn instances i j → LeadsIn rows j i
