-- Which wishes a walk follows, and which packages it reads.
use Rattle.std.specs.Prelude.{◌≡◌, List, [], ◌∷◌, ◌++◌, map, Option, Some, None}
use Rattle.std.specs.List.{Contains}
use Rattle.pn_walk.specs.Wants.{Id, Wish, Node, Aim, to_package}
use Rattle.pn_walk.specs.Walks.{Turn, Link, State, Walk, place_of}
use Rattle.pn_walk.specs.Graphs.{id_of, IsDistinct}

abbrev pub wish_of : Link → Wish
wish_of l = l.turn.wish

-- No package is there twice, and none was met before.
pub record AreNew (met : List Node) (ids : List Id) : Type 0 where
  pub once : IsDistinct ids
  pub unmet : (i : Id) → Contains ids i → Contains (map id_of met) i → ⊥

-- The wishes that are followed are exactly those of the edges that are taken, and the packages that are read exactly those that
-- are met, in this order: they weren't met before, and none is read twice. `reads` says of wishes and of packages that the calls
-- follow the ones and read the others, in this order, and no more.
pub record HasRead (reads : List Wish → List Id → Type 0) (old new : State) : Type 0 where
  pub taken : List Link
  pub takes : new.links ≡ old.links ++ taken
  pub added : List Node
  pub grows : new.met ≡ old.met ++ added
  pub read : reads (map wish_of taken) (map id_of added)
  pub fresh : AreNew old.met (map id_of added)

-- No package, or the one that the wish leads to, where it wasn't met yet.
pub data MayRead (leads : Wish → Option Aim → Type 0) (met : List Node) (w : Wish) : List Id → Type 0 where
  none : MayRead leads met w []
  new : (i : Id) → leads w (Some (to_package i)) → place_of i met ≡ None → MayRead leads met w (i ∷ [])

-- At most the package is read that this wish leads to.
pub record ReadsFor (leads : Wish → Option Aim → Type 0) (reads : List Id → Type 0) (met : List Node) (w : Wish) : Type 0 where
  pub ids : List Id
  pub few : MayRead leads met w ids
  pub read : reads ids

-- Of the next edge nothing is done yet; or its wish is followed, and at most its package read.
pub data MayBegin (leads : Wish → Option Aim → Type 0) (t : State) : List Wish → List Id → Type 0 where
  waits : MayBegin leads t [] []
  begins : (e : Turn) (rest : List Turn) (ids : List Id) → t.todo ≡ e ∷ rest → MayRead leads t.met e.wish ids → MayBegin leads t (e.wish ∷ []) ids

-- Until a state of the walk the same is followed and read as where all goes well, and then at most that of the next edge.
pub record ReadsOnce (leads : Wish → Option Aim → Type 0) (node : Node → Type 0) (reads : List Wish → List Id → Type 0) (s : State) : Type 0 where
  pub end : State
  pub walk : Walk leads node end s
  pub wishes : List Wish
  pub ids : List Id
  pub begun : MayBegin leads end wishes ids
  pub before : HasRead (λ ws is. reads (ws ++ wishes) (is ++ ids)) s end
