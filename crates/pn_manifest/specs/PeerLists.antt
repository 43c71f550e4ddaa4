-- The peers of a manifest: those that it declares, and those that it only says to be optional.
use Rattle.std.specs.Prelude.{ℕ, List, [], ◌∷◌, true, false, codes, map}
use Rattle.std.specs.Cmp.Lexicographic.{slice_cmp}
use Rattle.std.specs.Ordering.{nat_cmp, match_ordering}
use Rattle.pn_manifest.specs.Pairs.{Pair}
use Rattle.pn_manifest.specs.declared.peers.Peer.{Peer}

abbrev pub required : Pair → Peer
required p = record { name = p.0; text = p.1; optional = false }

abbrev pub marked : Peer → Peer
marked p = record p { optional = true }

-- an optional peer of any version
abbrev pub any_peer : List ℕ → Peer
any_peer name = record { name = name; text = codes "*"; optional = true }

-- A name is optional: its peer is marked so; where it has none, one of any version is put in at its place in byte order.
abbrev pub with_optional : List ℕ → List Peer → List Peer
with_optional name [] = any_peer name ∷ []
with_optional name (p ∷ ps) =
    match_ordering (slice_cmp nat_cmp name p.name) (any_peer name ∷ p ∷ ps) (marked p ∷ ps) (p ∷ with_optional name ps)

abbrev pub with_optionals : List (List ℕ) → List Peer → List Peer
with_optionals [] ps = ps
with_optionals (name ∷ names) ps = with_optional name (with_optionals names ps)

-- the peers of declared names with texts, and of names that are optional
abbrev pub peers_of : List Pair → List (List ℕ) → List Peer
peers_of declared optional = with_optionals optional (map required declared)
