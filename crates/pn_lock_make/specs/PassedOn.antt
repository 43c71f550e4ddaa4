-- The peers that packages pass on to those who depend on them.
use Rattle.std.specs.Prelude.{◌≡◌, ◌<◌, ℕ, Bool, List, [], ◌∷◌, length, slice_index_or, true, false}
use Rattle.std.specs.List.{Contains}
use Rattle.pn_lock.specs.Kept.{Rises}
use Rattle.pn_graph.specs.declared.links.Package.{Package}
use Rattle.pn_graph.specs.declared.peer.Peer.{Peer}
use Rattle.pn_graph.specs.Graphs.{has_name}
use Rattle.pn_graph.specs.FreeNames.{IsFree, peers_at}

abbrev pub some_peer : List Peer → Bool
some_peer [] = false
some_peer (r ∷ rs) = true

abbrev pub has_peers : Package → Bool
has_peers p = some_peer p.peers

-- exactly the names that are free in a package and no peers of its own, in byte order
pub record ArePassed (packages : List Package) (of : ℕ) (names : List (List ℕ)) : Type 0 where
  pub rises : Rises names
  pub free : (n : List ℕ) → Contains names n → IsFree packages n of
  pub other : (n : List ℕ) → Contains names n → has_name n (peers_at packages of) ≡ false
  pub all : (n : List ℕ) → IsFree packages n of → has_name n (peers_at packages of) ≡ false → Contains names n

-- the names of each package
pub record AreAllPassed (packages : List Package) (passed : List (List (List ℕ))) : Type 0 where
  pub count : length passed ≡ length packages
  pub each : (k : ℕ) → k < length packages → ArePassed packages k (slice_index_or passed k [])
