-- What a manifest says, whatever its layout in memory.
use Rattle.std.specs.Prelude.{ℕ, List, Option, map}
use Rattle.std.specs.Cmp.Lexicographic.{slice_cmp}
use Rattle.std.specs.List.Sorted.{IsStrictlySortedBy}
use Rattle.std.specs.Ordering.{nat_cmp}
use Rattle.semver.specs.Parse.{Parts}
use Rattle.pn_manifest.specs.Pairs.{Pair, names}
pub use Rattle.pn_manifest.specs.declared.peers.Peer.{Peer}

-- The name and the version; the maps `dependencies`, `devDependencies` and `optionalDependencies`; the peers; the scripts,
-- the commands, the names that are injected, and the overrides of `pnpm.overrides`. Each list rises in byte order of its
-- first members.
pub record Said : Type 0 where
  pub name : Option (List ℕ)
  pub version : Option Parts
  pub dependencies : List Pair
  pub dev : List Pair
  pub optional : List Pair
  pub peers : List Peer
  pub scripts : List Pair
  pub bins : List Pair
  pub injected : List (List ℕ)
  pub overrides : List Pair

-- byte order, each once
abbrev pub AreRising : List (List ℕ) → Type 0
AreRising texts = IsStrictlySortedBy (slice_cmp nat_cmp) texts

abbrev pub peer_names : List Peer → List (List ℕ)
peer_names peers = map (λ (p : Peer). p.name) peers

-- Each list rises in byte order of names.
pub record IsRisingSaid (m : Said) : Type 0 where
  pub dependencies : AreRising (names m.dependencies)
  pub dev : AreRising (names m.dev)
  pub optional : AreRising (names m.optional)
  pub peers : AreRising (peer_names m.peers)
  pub scripts : AreRising (names m.scripts)
  pub bins : AreRising (names m.bins)
  pub injected : AreRising m.injected
  pub overrides : AreRising (names m.overrides)
