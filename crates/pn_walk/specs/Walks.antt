-- Edges wait in a queue. Each is taken in its turn, and a package that is met for the first time adds its own at the end.
use Rattle.std.specs.Prelude.{◌≡◌, ◌<◌, ℕ, suc, List, [], ◌∷◌, ◌++◌, map, length, Option, Some, None, if◌then◌else◌, option_map, filter, Bool, false, ◌==◌}
use Rattle.std.specs.List.{All}
use Rattle.pn_text.specs.declared.limits.TheConstants.{PACKAGE_LIMIT}
use Rattle.pn_walk.specs.Wants.{Id, same_id, Wish, Node, Aim, to_project, to_package, Place, at_project, at_package}

-- an edge that waits: who asks, and for what
pub record Turn : Type 0 where
  pub who : Place
  pub wish : Wish

-- an edge that was taken, and where it leads; None where it is absent
pub record Link : Type 0 where
  pub turn : Turn
  pub to : Option Place

-- the edges that wait, the packages in the order in which they were met, and the edges that were taken
pub record State : Type 0 where
  pub todo : List Turn
  pub met : List Node
  pub links : List Link

abbrev pub turn_by : Place → Wish → Turn
turn_by who w = record { who = who; wish = w }

abbrev pub same_place : Place → Place → Bool
same_place (at_project q) (at_project r) = q == r
same_place (at_project q) (at_package k) = false
same_place (at_package k) (at_project r) = false
same_place (at_package k) (at_package j) = k == j

-- the edges of one node, in order
abbrev pub asked_by : Place → List Turn → List Turn
asked_by who turns = filter (λ (e : Turn). same_place e.who who) turns

-- the edges of the packages from this place on
abbrev pub turns_of : ℕ → List Node → List Turn
turns_of k [] = []
turns_of k (n ∷ ns) = map (turn_by (at_package k)) n.wishes ++ turns_of (suc k) ns

-- the place of the first package with an id
abbrev pub place_of : Id → List Node → Option ℕ
place_of i [] = None
place_of i (n ∷ ns) = if same_id n.id i then Some 0 else option_map suc (place_of i ns)

-- A package that isn't met yet is met now: node says which packages there are, and what they ask for.
pub record Meets (node : Node → Type 0) (met : List Node) (i : Id) (to : Option Place) (added : List Node) : Type 0 where
  pub new : Node
  pub is : node new
  pub here : new.id ≡ i
  pub room : length met < PACKAGE_LIMIT
  pub at : to ≡ Some (at_package (length met))
  pub only : added ≡ new ∷ []

-- where nothing new is met
pub record IsKnown (to : Option Place) (added : List Node) (there : Option Place) : Type 0 where
  pub at : to ≡ there
  pub only : added ≡ []

abbrev pub LandsAt : (Node → Type 0) → List Node → Id → Option ℕ → Option Place → List Node → Type 0
LandsAt node met i (Some k) to added = IsKnown to added (Some (at_package k))
LandsAt node met i None to added = Meets node met i to added

-- where an edge lands that leads there, and which package it adds
abbrev pub Lands : (Node → Type 0) → List Node → Option Aim → Option Place → List Node → Type 0
Lands node met None to added = IsKnown to added None
Lands node met (Some (to_project q)) to added = IsKnown to added (Some (at_project q))
Lands node met (Some (to_package i)) to added = LandsAt node met i (place_of i met) to added

-- An edge is taken.
pub record Takes (leads : Wish → Option Aim → Type 0) (node : Node → Type 0) (met : List Node) (w : Wish) (to : Option Place) (added : List Node) : Type 0 where
  pub aim : Option Aim
  pub aims : leads w aim
  pub lands : Lands node met aim to added

-- the state behind an edge that was taken
abbrev pub after : List Turn → List Node → List Link → Turn → Option Place → List Node → State
after rest met links turn to added = record {
  todo = rest ++ turns_of (length met) added;
  met = met ++ added;
  links = links ++ record { turn = turn; to = to } ∷ [];
}

-- The first edge that waits is taken.
pub record Moves (leads : Wish → Option Aim → Type 0) (node : Node → Type 0) (s t : State) : Type 0 where
  pub turn : Turn
  pub rest : List Turn
  pub next : s.todo ≡ turn ∷ rest
  pub to : Option Place
  pub added : List Node
  pub takes : Takes leads node s.met turn.wish to added
  pub is : t ≡ after rest s.met s.links turn to added

-- Edges are taken, until this state.
pub data Walk (leads : Wish → Option Aim → Type 0) (node : Node → Type 0) (t : State) : State → Type 0 where
  ends : (s : State) → s ≡ t → Walk leads node t s
  goes : (s m : State) → Moves leads node s m → Walk leads node t m → Walk leads node t s

-- what is asked at the start: nothing is met
abbrev pub start : List Turn → State
start own = record { todo = own; met = []; links = [] }

-- where all edges were taken, further ones are asked for
abbrev pub asking : State → List Turn → State
asking s more = record { todo = more; met = s.met; links = s.links }

abbrev pub IsOfProject : Place → Type 0
IsOfProject (at_project q) = Unit {0}
IsOfProject (at_package k) = ⊥

-- All edges are taken.
pub record IsWalked (leads : Wish → Option Aim → Type 0) (node : Node → Type 0) (s t : State) : Type 0 where
  pub walk : Walk leads node t s
  pub none : t.todo ≡ []

abbrev pub all_of : List (List Turn) → List Turn
all_of [] = []
all_of (r ∷ rs) = r ++ all_of rs

-- The edges of projects are taken with all below them, and then in each round further ones of projects.
pub data Rounds (leads : Wish → Option Aim → Type 0) (node : Node → Type 0) (own : List Turn) : List (List Turn) → State → Type 0 where
  first : (t : State) → IsWalked leads node (start own) t → Rounds leads node own [] t
  again : (rounds : List (List Turn)) (s : State) (more : List Turn) (t : State) → Rounds leads node own rounds s → All (λ (e : Turn). IsOfProject e.who) more
      → IsWalked leads node (asking s more) t → Rounds leads node own (rounds ++ more ∷ []) t

-- The edges before one are taken, and it is refused.
pub record IsStopped {F : Type 0} (leads : Wish → Option Aim → Type 0) (node : Node → Type 0) (refused : List Node → Turn → F → Type 0) (s t : State) (fault : F) : Type 0 where
  pub walk : Walk leads node t s
  pub turn : Turn
  pub rest : List Turn
  pub next : t.todo ≡ turn ∷ rest
  pub why : refused t.met turn fault
