-- Edges as the targets of each place.
use Rattle.std.specs.Prelude.{◌≡◌, ◌<◌, ◌++◌, ◌∷◌, ℕ, List, [], Vec, map, length, get_or, slice_set}
use Rattle.std.specs.List.{Contains}
use Rattle.pn_components.specs.Graphs.{Edges, Leads}

-- a list of vectors as a list of lists
abbrev pub rows_of : {A : Type 0} → List (Vec ℕ A) → List (List ℕ)
rows_of {A} rows = map (λ (r : Vec ℕ A). r.items) rows

-- a place is among the targets of another
abbrev pub LeadsIn : List (List ℕ) → ℕ → ℕ → Type 0
LeadsIn rows a b = Contains (get_or rows a []) b

-- the targets are those of the edges
pub record AreRows (edges : Edges) (rows : List (List ℕ)) : Type 0 where
  pub leads : (a b : ℕ) → LeadsIn rows a b → Leads edges a b
  pub all : (a b : ℕ) → Leads edges a b → LeadsIn rows a b

-- each target is one of the places
abbrev pub AreWithin : List (List ℕ) → Type 0
AreWithin rows = (a b : ℕ) → LeadsIn rows a b → b < length rows

-- one more target of a place
abbrev pub Adds : ℕ → ℕ → List (List ℕ) → List (List ℕ) → Type 0
Adds from to old new = new ≡ slice_set old from (get_or old from [] ++ to ∷ [])
