-- A peer, as it is read from what a manifest names.
use Rattle.std.proofs.Common.{◌≡◌, ℕ, List, ◌∙◌, subst}
use Rattle.std.specs.Prelude.{IfOk, Result, Ok, Err}
use Rattle.pn_manifest.specs.declared.peers.Peer.{Peer as SaidPeer}
use Rattle.pn_graph.specs.PeerRanges.{IsPeerRange}
use Rattle.pn_graph.specs.declared.peer.Peer.{Peer}
use Rattle.pn_shape.specs.Shapes.{IsPeerOf}

pub peer_is : {E : Type 0} (r : Result Peer E) (s : SaidPeer) (name text : List ℕ) → IfOk r (λ p. p.name ≡ name) → IfOk r (λ p. IsPeerRange text p.range) → IfOk r (λ p. p.text ≡ text) → IfOk r (λ p. p.optional ≡ s.optional)
    → name ≡ s.name → text ≡ s.text → IfOk r (IsPeerOf s)
peer_is (Ok p) s name text n g t o a b = record { name = n ∙ a; text = t ∙ b; optional = o; range = subst (λ (x : List ℕ). IsPeerRange x p.range) b g }
peer_is (Err e) s name text n g t o a b = tt
