-- What the calls of a walk do.
use Rattle.std.specs.Prelude.{◌≡◌, ◌⊎◌, ◌≤◌, ◌+◌, ℕ, List, ◌∷◌, ◌++◌, map, length, Option, Some, None}
use Rattle.pn_text.specs.declared.limits.TheConstants.{PACKAGE_LIMIT}
use Rattle.pn_walk.specs.Wants.{Id, Wish, Aim, Node, Place, to_package}
use Rattle.pn_walk.specs.Walks.{Turn, Link, State, turn_by, turns_of, place_of, LandsAt, Moves, Walk, IsStopped}
use Rattle.pn_walk.specs.Edges.{IsEdgeOf}
use Rattle.pn_walk.specs.declared.state.Taken.{Taken}
use Rattle.pn_walk.specs.declared.state.Queue.{Queue}
use Rattle.pn_walk.specs.declared.fault.WalkFault.{WalkFault}
use Rattle.pn_walk.specs.declared.fault.WalkFault.TheVariants.{Ways, Packages, Memory}

abbrev pub link_of : Taken → Link
link_of t = record { turn = turn_by t.who t.wish; to = t.to }

-- the state of a walk before which these edges wait
abbrev pub at : List Turn → Queue → State
at todo q = record { todo = todo; met = q.nodes.items; links = map link_of q.links.items }

-- A package is met, or was.
pub record Met (node : Node → Type 0) (i : Id) (to : Place) (old new : Queue) : Type 0 where
  pub added : List Node
  pub grows : new.nodes.items ≡ old.nodes.items ++ added
  pub links : new.links.items ≡ old.links.items
  pub lands : LandsAt node old.nodes.items i (place_of i old.nodes.items) (Some to) added

-- This edge is taken.
pub record Took (leads : Wish → Option Aim → Type 0) (node : Node → Type 0) (e : Turn) (old new : Queue) : Type 0 where
  pub added : List Node
  pub grows : new.nodes.items ≡ old.nodes.items ++ added
  pub moves : (rest : List Turn) → Moves leads node (at (e ∷ rest) old) (at (rest ++ turns_of (length old.nodes.items) added) new)

-- These edges are taken.
pub record TookAll (leads : Wish → Option Aim → Type 0) (node : Node → Type 0) (edges : List Turn) (old new : Queue) : Type 0 where
  pub added : List Node
  pub grows : new.nodes.items ≡ old.nodes.items ++ added
  pub walks : (rest : List Turn) → Walk leads node (at (rest ++ turns_of (length old.nodes.items) added) new) (at (edges ++ rest) old)

-- The package is there, and found no room.
pub record IsFull (node : Node → Type 0) (met : List Node) (id : Id) : Type 0 where
  pub found : Node
  pub is : node found
  pub here : found.id ≡ id
  pub full : PACKAGE_LIMIT ≤ length met

-- A package that isn't met yet can't be met now.
pub record NotMet (leads : Wish → Option Aim → Type 0) (met : List Node) (w : Wish) (Cause : Id → Type 0) : Type 0 where
  pub id : Id
  pub aims : leads w (Some (to_package id))
  pub fresh : place_of id met ≡ None
  pub why : Cause id

-- why an edge isn't taken where these packages were met
abbrev pub EdgeRefused : {F : Type 0} → (Wish → Option Aim → Type 0) → (Node → Type 0) → (Wish → F → Type 0) → (Id → F → Type 0) → List (List ℕ) → List Node → Turn → WalkFault F → Type 0
EdgeRefused leads node lost unread folders met turn (Ways e f) = IsEdgeOf folders met turn e × (lost turn.wish f ⊎ NotMet leads met turn.wish (λ i. unread i f))
EdgeRefused leads node lost unread folders met turn (Packages n) = (n ≡ PACKAGE_LIMIT + 1) × NotMet leads met turn.wish (IsFull node met)
EdgeRefused leads node lost unread folders met turn Memory = Unit {0}

-- too many packages, or there was no memory
abbrev pub IsTooMany : {F : Type 0} → List Node → WalkFault F → Type 0
IsTooMany met (Ways e f) = ⊥
IsTooMany met (Packages n) = (n ≡ PACKAGE_LIMIT + 1) × (PACKAGE_LIMIT ≤ length met)
IsTooMany met Memory = Unit {0}

-- One of these edges is refused; those before it were taken.
pub record StopsIn {F : Type 0} (leads : Wish → Option Aim → Type 0) (node : Node → Type 0) (lost : Wish → F → Type 0) (unread : Id → F → Type 0) (folders : List (List ℕ)) (edges : List Turn) (old : Queue) (fault : WalkFault F) : Type 0 where
  pub front : List Turn
  pub edge : Turn
  pub rest : List Turn
  pub there : Queue
  pub is : edges ≡ front ++ edge ∷ rest
  pub took : TookAll leads node front old there
  pub why : EdgeRefused leads node lost unread folders there.nodes.items edge fault

-- The walk stops at an edge that is refused.
pub record StopsSomewhere {F : Type 0} (leads : Wish → Option Aim → Type 0) (node : Node → Type 0) (lost : Wish → F → Type 0) (unread : Id → F → Type 0) (folders : List (List ℕ)) (s : State) (fault : WalkFault F) : Type 0 where
  pub end : State
  pub stopped : IsStopped leads node (EdgeRefused leads node lost unread folders) s end fault

-- the same, or there was no memory
abbrev pub Stops : {F : Type 0} → (Wish → Option Aim → Type 0) → (Node → Type 0) → (Wish → F → Type 0) → (Id → F → Type 0) → List (List ℕ) → State → WalkFault F → Type 0
Stops leads node lost unread folders s (Ways e f) = StopsSomewhere leads node lost unread folders s (Ways e f)
Stops leads node lost unread folders s (Packages n) = StopsSomewhere leads node lost unread folders s (Packages n)
Stops leads node lost unread folders s Memory = Unit {0}

-- what a refusal of the ways says
abbrev pub OnWays : {F : Type 0} → (F → Type 0) → WalkFault F → Type 0
OnWays broke (Ways e f) = broke f
OnWays broke (Packages n) = Unit {0}
OnWays broke Memory = Unit {0}
