-- The peers of a package that those who depend on it have to provide.
use Rattle.std.specs.Prelude.{◌≡◌, ℕ, List, [], ◌∷◌, ◌++◌, Bool, true, false, Option, Some, None, slice_get, map, if◌then◌else◌}
use Rattle.std.specs.List.{AllPairs, Contains}
use Rattle.std.specs.Cmp.Lexicographic.{slice_cmp}
use Rattle.std.specs.Ordering.{nat_cmp, is_lt}
use Rattle.pn_graph.specs.Graphs.{Dep, Package, aliases, has_name, peer_names}
use Rattle.pn_graph.specs.Lookups.{package_deps, package_peers}
use Rattle.pn_graph.specs.Reaches.{Leads}

-- A package's own peer is free in it, and so is a name that is free in a dependency and no alias of its own.
pub data IsFree (packages : List Package) (name : List ℕ) : ℕ → Type 0 where
  own : (k : ℕ) → has_name name (peer_names (package_peers (slice_get packages k))) ≡ true → IsFree packages name k
  below : (i k : ℕ) → Leads packages i k → has_name name (aliases (package_deps (slice_get packages i))) ≡ false → IsFree packages name k → IsFree packages name i

-- The list has exactly the names that are free, rising in byte order, each once.
pub record AreFree (packages : List Package) (of : ℕ) (names : List (List ℕ)) : Type 0 where
  pub rises : AllPairs (λ (a b : List ℕ). is_lt (slice_cmp nat_cmp a b) ≡ true) names
  pub free : (n : List ℕ) → Contains names n → IsFree packages n of
  pub all : (n : List ℕ) → IsFree packages n of → Contains names n

-- the peers of the package at a place
abbrev pub peers_at : List Package → ℕ → List (List ℕ)
peers_at packages k = peer_names (package_peers (slice_get packages k))

abbrev pub is_peer_at : List Package → List ℕ → ℕ → Bool
is_peer_at packages name k = has_name name (peers_at packages k)

-- The name is added if it is free.
pub data Keeps (packages : List Package) (of : ℕ) (name : List ℕ) (old new : List (List ℕ)) : Type 0 where
  added : IsFree packages name of → new ≡ old ++ name ∷ [] → Keeps packages of name old new
  passed : (IsFree packages name of → ⊥) → new ≡ old → Keeps packages of name old new

-- the dependencies, or none where one has that alias
abbrev pub deps_past : Option (List ℕ) → List Dep → List Dep
deps_past None deps = deps
deps_past (Some n) deps = if has_name n (aliases deps) then [] else deps

abbrev pub past_name : List ℕ → Package → Package
past_name n p = record { id = p.id; deps = deps_past (Some n) p.deps; peers = p.peers }

-- the packages, without the dependencies of those with that alias
abbrev pub passing : Option (List ℕ) → List Package → List Package
passing None packages = packages
passing (Some n) packages = map (past_name n) packages

-- What is free by the two rules is in each set that keeps to them.
pub record FreeLaw : Type 0 where
  pub least : (packages : List Package) (name : List ℕ) (set : ℕ → Bool)
      → ((k : ℕ) → has_name name (peers_at packages k) ≡ true → set k ≡ true)
      → ((i k : ℕ) → Leads packages i k → has_name name (aliases (package_deps (slice_get packages i))) ≡ false → set k ≡ true → set i ≡ true)
      → (of : ℕ) → IsFree packages name of → set of ≡ true
