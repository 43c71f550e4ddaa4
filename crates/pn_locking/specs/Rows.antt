-- What a small manifest asks of a lock, computed.
use Rattle.std.specs.Prelude.{◌≡◌, ℕ, Bool, true, false, List, [], ◌∷◌, Some, None, codes, refl}
use Rattle.pn_manifest.specs.declared.peers.Peer.{Peer}
use Rattle.pn_manifest.specs.Pairs.{Pair}
use Rattle.pn_manifest.specs.Said.{Said}
use Rattle.pn_asked.specs.declared.asked.AskedProject.{AskedProject}
use Rattle.pn_locking.specs.Asks.{asked_by}

abbrev pub on : List ℕ → List ℕ → Pair
on name text = (name, text)

abbrev pub peer : List ℕ → Bool → Peer
peer name optional = record { name = name; text = codes "^1"; optional = optional }

-- `b` is in two maps and `c` in all three, `app` is the manifest's own name, `a` is a required peer, `d` one that is a
-- dependency, and `e` an optional one
abbrev pub small : Said
small = record {
  name = Some (codes "app");
  version = None;
  dependencies = on (codes "app") (codes "1") ∷ on (codes "b") (codes "2") ∷ on (codes "c") (codes "3") ∷ on (codes "d") (codes "4") ∷ [];
  dev = on (codes "b") (codes "5") ∷ on (codes "c") (codes "6") ∷ on (codes "f") (codes "7") ∷ [];
  optional = on (codes "c") (codes "8") ∷ [];
  peers = peer (codes "a") false ∷ peer (codes "d") false ∷ peer (codes "e") true ∷ [];
  scripts = [];
  bins = [];
  injected = [];
  overrides = [];
}

abbrev pub asked_row : List Pair → AskedProject
asked_row dependencies = record {
  folder = codes ".";
  dependencies = dependencies;
  dev = on (codes "f") (codes "7") ∷ [];
  optional = on (codes "c") (codes "8") ∷ [];
}

pub without_peers : asked_by false (record { folder = codes "."; said = small }) ≡ asked_row (on (codes "b") (codes "2") ∷ on (codes "d") (codes "4") ∷ [])
without_peers = refl

pub with_peers : asked_by true (record { folder = codes "."; said = small }) ≡ asked_row (on (codes "a") (codes "^1") ∷ on (codes "b") (codes "2") ∷ on (codes "d") (codes "4") ∷ [])
with_peers = refl
