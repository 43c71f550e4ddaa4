-- The end of a walk whose value is a plain graph.
use Rattle.std.specs.Prelude.{◌≡◌, ◌<◌, ◌^◌, ℕ, List, map, length, Option, Some, None, slice_get}
use Rattle.std.specs.List.{All, Contains}
use Rattle.pn_text.specs.Ids.{id_name}
use Rattle.pn_manifest.specs.Said.{AreRising, peer_names}
use Rattle.pn_walk.specs.declared.node.Node.{Node}
use Rattle.pn_walk.specs.declared.wish.Place.{Place}
use Rattle.pn_walk.specs.declared.wish.Place.TheVariants.{Project as at_project, Package as at_package}
use Rattle.pn_walk.specs.Walks.{Link, State}
use Rattle.pn_walk.specs.Graphs.{IsDistinct, id_of}
use Rattle.pn_shape.specs.Shapes.{links_by}

-- the place is that of one of so many projects, or of so many packages
abbrev pub IsPlace : ℕ → ℕ → Place → Type 0
IsPlace projects packages (at_project q) = q < projects
IsPlace projects packages (at_package k) = k < packages

-- the edge leads nowhere, or to such a place
abbrev pub IsEnd : ℕ → ℕ → Option Place → Type 0
IsEnd projects packages None = Unit {0}
IsEnd projects packages (Some p) = IsPlace projects packages p

-- The edge leads from one of the nodes to one of them.
pub record IsBetween (projects packages : ℕ) (l : Link) : Type 0 where
  pub who : IsPlace projects packages l.turn.who
  pub to : IsEnd projects packages l.to

abbrev pub alias_of : Link → List ℕ
alias_of l = l.turn.wish.alias

-- the aliases under which a node asks
abbrev pub aliases_by : Place → List Link → List (List ℕ)
aliases_by who links = map alias_of (links_by who links)

-- The peers of a package that asks under these aliases rise. Its own name is neither an alias nor a peer, and no name is
-- both.
pub record HasOwnNames (n : Node) (names : List (List ℕ)) : Type 0 where
  pub rising : AreRising (peer_names n.peers)
  pub no_alias : Contains names (id_name n.id) → ⊥
  pub no_peer : Contains (peer_names n.peers) (id_name n.id) → ⊥
  pub not_both : (r : List ℕ) → Contains (peer_names n.peers) r → Contains names r → ⊥

-- Fewer than 2^32 folders, which rise; each id once; edges between nodes, of each node in byte order of aliases; and names
-- of packages of their own.
pub record IsFit (folders : List (List ℕ)) (t : State) : Type 0 where
  pub few : length folders < 2 ^ 32
  pub rising : AreRising folders
  pub once : IsDistinct (map id_of t.met)
  pub between : All (IsBetween (length folders) (length t.met)) t.links
  pub aliases : (who : Place) → AreRising (aliases_by who t.links)
  pub own : (k : ℕ) (n : Node) → slice_get t.met k ≡ Some n → HasOwnNames n (aliases_by (at_package k) t.links)
