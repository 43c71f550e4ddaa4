-- What is known of what a seen manifest asks for, and of its peers.
use Rattle.std.specs.Prelude.{ℕ, Bool, List}
use Rattle.std.specs.List.{Contains}
use Rattle.pn_manifest.specs.declared.peers.Peer.{Peer}
use Rattle.pn_manifest.specs.Said.{Said, AreRising, peer_names, IsRisingSaid}
use Rattle.pn_walk.specs.declared.wish.Wish.{Wish}
use Rattle.pn_plain.specs.Seen.{Owner, a_project, no_hook, no_rules, IsSeen, counted, wishes_of}
use Rattle.pn_plain.specs.SeenLaws.{IsOwn}
use Rattle.pn_plain.specs.WishLaws.{aliases}

-- The aliases rise, and none is the manifest's own name.
pub record AreSoundWishes (m : Said) (wishes : List Wish) : Type 0 where
  pub rising : AreRising (aliases wishes)
  pub own : (n : List ℕ) → IsOwn m n → Contains (aliases wishes) n → ⊥

-- The peers rise, none has the manifest's own name, and none is asked for.
pub record AreSoundPeers (m : Said) (wishes : List Wish) (peers : List Peer) : Type 0 where
  pub rising : AreRising (peer_names peers)
  pub own : (n : List ℕ) → IsOwn m n → Contains (peer_names peers) n → ⊥
  pub unasked : (n : List ℕ) → Contains (peer_names peers) n → Contains (aliases wishes) n → ⊥

-- Of what a manifest is seen as, where its lists rise and no hook is asked and nothing overridden.
pub record AskedLaw : Type 0 where
  pub wishes : (owner : Owner) (m s : Said) → IsRisingSaid m → IsSeen no_hook no_rules owner m s → AreSoundWishes m (wishes_of s)
  pub peers : (owner : Owner) (m s : Said) → IsRisingSaid m → IsSeen no_hook no_rules owner m s → AreSoundPeers m (wishes_of s) s.peers
  pub project : (auto_peers : Bool) (m s : Said) → IsRisingSaid m → IsSeen no_hook no_rules a_project m s → AreSoundWishes m (wishes_of (counted auto_peers s))
