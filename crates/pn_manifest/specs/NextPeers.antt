-- The next peer of declared names with texts and of names that are optional, both in byte order.
use Rattle.std.specs.Prelude.{◌≡◌, ◌≤◌, ◌<◌, ◌+◌, ℕ, List, ◌∷◌, length, drop, map}
use Rattle.pn_manifest.specs.Listed.{pair_of}
use Rattle.pn_manifest.specs.PeerLists.{peers_of}
use Rattle.pn_manifest.specs.declared.dependencies.Dependency.{Dependency}
use Rattle.pn_manifest.specs.declared.peer_list.Next.{Next}

-- It is the first peer of the declared names from i on and the optional ones from j on; the others are of what it leaves.
pub record IsNext (declared : List Dependency) (i : ℕ) (optional : List (List ℕ)) (j : ℕ) (n : Next) : Type 0 where
  pub of_declared : i + n.declared ≤ length declared
  pub of_optional : j + n.optional ≤ length optional
  pub some : 0 < n.declared + n.optional
  pub first : peers_of (map pair_of (drop i declared)) (drop j optional)
      ≡ n.peer ∷ peers_of (map pair_of (drop (i + n.declared) declared)) (drop (j + n.optional) optional)
