-- The packages of a lock.
use Rattle.std.specs.Prelude.{ℕ, suc, List, [], ◌∷◌, map, slice_index_or}
use Rattle.std.specs.List.{filter}
use Rattle.pn_lock.specs.declared.lists.LockPackage.{LockPackage}
use Rattle.pn_lock.specs.declared.lists.LockPeer.{LockPeer}
use Rattle.pn_graph.specs.declared.links.Package.{Package}
use Rattle.pn_graph.specs.declared.peer.Peer.{Peer}
use Rattle.pn_graph.specs.Graphs.{peer_names}

abbrev pub peer_of : Peer → LockPeer
peer_of r = record { name = r.name; range = r.text }

abbrev pub optional_names : List Peer → List (List ℕ)
optional_names peers = peer_names (filter (λ (r : Peer). r.optional) peers)

abbrev pub package_of : Package → List ℕ → LockPackage
package_of p integrity = record { id = p.id; integrity = integrity; peers = map peer_of p.peers; optional_peers = optional_names p.peers }

-- the packages from a place on, with the integrity of each
abbrev pub packages_from : List (List ℕ) → ℕ → List Package → List LockPackage
packages_from integrities n [] = []
packages_from integrities n (p ∷ ps) = package_of p (slice_index_or integrities n []) ∷ packages_from integrities (suc n) ps
