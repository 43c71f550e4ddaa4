-- What a manifest is seen as, in the manifest's own words.
use Rattle.std.specs.Prelude.{◌≡◌, ◌⊎◌, ◌↔◌, ℕ, List, Some}
use Rattle.std.specs.List.{Contains}
use Rattle.pn_manifest.specs.declared.peers.Peer.{Peer}
use Rattle.pn_manifest.specs.Pairs.{Pair}
use Rattle.pn_manifest.specs.Said.{Said}
use Rattle.pn_plain.specs.Seen.{Owner, dev_of, no_hook, no_rules, IsSeen}
use Rattle.pn_plain.specs.Told.{Told, IsOverridden, IsToldSeen}

-- a map has the name
abbrev pub IsIn : List Pair → List ℕ → Type 0
IsIn pairs n = (text : List ℕ) × Contains pairs (n, text)

abbrev pub IsOwn : Said → List ℕ → Type 0
IsOwn m n = m.name ≡ Some n

-- The manifest has a dependency of that name, in a map that counts.
abbrev pub IsDependency : Owner → Said → List ℕ → Type 0
IsDependency owner m n = IsIn m.optional n ⊎ (IsIn m.dependencies n ⊎ IsIn (dev_of owner m) n)

-- Where no hook is asked and nothing overridden: each map has what the manifest says, but its own name and the names of the
-- maps that go before; and the peers are those that are no dependencies.
pub record SeenWords (owner : Owner) (m s : Said) : Type 0 where
  pub optional : (n text : List ℕ) → Contains s.optional (n, text) ↔ (Contains m.optional (n, text) × (IsOwn m n → ⊥))
  pub dependencies : (n text : List ℕ) → Contains s.dependencies (n, text) ↔ (Contains m.dependencies (n, text) × (IsIn m.optional n → ⊥) × (IsOwn m n → ⊥))
  pub dev : (n text : List ℕ) → Contains s.dev (n, text) ↔ (Contains (dev_of owner m) (n, text) × (IsIn m.optional n → ⊥) × (IsIn m.dependencies n → ⊥) × (IsOwn m n → ⊥))
  pub peers : (p : Peer) → Contains s.peers p ↔ (Contains m.peers p × (IsOwn m p.name → ⊥) × (IsDependency owner m p.name → ⊥))

-- A name stands in one of the three maps.
pub record IsOnce (s : Said) : Type 0 where
  pub dependencies : (n : List ℕ) → IsIn s.optional n → IsIn s.dependencies n → ⊥
  pub dev : (n : List ℕ) → IsIn s.optional n → IsIn s.dev n → ⊥
  pub either : (n : List ℕ) → IsIn s.dependencies n → IsIn s.dev n → ⊥

-- Each map has no name that it didn't have.
pub record AddsNone (m s : Said) : Type 0 where
  pub optional : (n : List ℕ) → IsIn s.optional n → IsIn m.optional n
  pub dependencies : (n : List ℕ) → IsIn s.dependencies n → IsIn m.dependencies n
  pub dev : (n : List ℕ) → IsIn s.dev n → IsIn m.dev n

-- Neither a dependency nor a peer has the manifest's own name.
pub record HasNoOwn (s : Said) : Type 0 where
  pub optional : (n : List ℕ) → IsOwn s n → IsIn s.optional n → ⊥
  pub dependencies : (n : List ℕ) → IsOwn s n → IsIn s.dependencies n → ⊥
  pub dev : (n : List ℕ) → IsOwn s n → IsIn s.dev n → ⊥
  pub peers : (p : Peer) → IsOwn s p.name → Contains s.peers p → ⊥

-- A manifest is seen in one way. A name stands in one map, unless overrides add it to another. Nothing has the manifest's
-- own name, and no peer was a dependency before the overrides, though these may have removed it.
pub record SeenLaw (told : Told) : Type 0 where
  pub one : (owner : Owner) (m a b : Said) → IsToldSeen told owner m a → IsToldSeen told owner m b → a ≡ b
  pub once : (owner : Owner) (m s : Said) → ((x y : Said) → IsOverridden told x y → AddsNone x y) → IsToldSeen told owner m s → IsOnce s
  pub own : (owner : Owner) (m s : Said) → IsToldSeen told owner m s → HasNoOwn s
  pub peers : (owner : Owner) (m s : Said) (p : Peer) → IsToldSeen told owner m s → Contains s.peers p → IsDependency owner (told.hook owner m) p.name → ⊥
  pub plain : (owner : Owner) (m s : Said) → IsSeen no_hook no_rules owner m s → SeenWords owner m s
