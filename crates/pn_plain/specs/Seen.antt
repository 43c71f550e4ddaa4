-- The seen manifest: what a manifest counts as, after hooks and overrides.
use Rattle.std.specs.Prelude.{◌≡◌, ℕ, ◌&&◌, Bool, true, false, not, List, [], ◌∷◌, ◌++◌, Option, Some, None, map, filter, if◌then◌else◌}
use Rattle.std.specs.List.{list_any}
use Rattle.std.specs.Str.{bytes_eq}
use Rattle.std.specs.Cmp.Lexicographic.{slice_cmp}
use Rattle.std.specs.Ordering.{nat_cmp, is_lt}
use Rattle.pn_walk.specs.declared.wish.Wish.{Wish}
use Rattle.pn_manifest.specs.declared.peers.Peer.{Peer}
use Rattle.pn_manifest.specs.Pairs.{Pair, names}
use Rattle.pn_manifest.specs.Said.{Said}

-- whose manifest it is
pub data Owner : Type 0 where
  a_project : Owner
  a_package : Owner

abbrev pub is_among : List (List ℕ) → List ℕ → Bool
is_among all name = list_any (bytes_eq name) all

-- the pairs whose name is none of these
abbrev pub but : List (List ℕ) → List Pair → List Pair
but all pairs = filter (λ (e : Pair). not (is_among all e.0)) pairs

abbrev pub peers_but : List (List ℕ) → List Peer → List Peer
peers_but all peers = filter (λ (p : Peer). not (is_among all p.name)) peers

abbrev pub own_names : Option (List ℕ) → List (List ℕ)
own_names None = []
own_names (Some name) = name ∷ []

-- A package's `devDependencies` don't count.
abbrev pub dev_of : Owner → Said → List Pair
dev_of a_project m = m.dev
dev_of a_package m = []

-- A name counts in one map: optional dependencies go before dependencies, and these before those for development.
abbrev pub one_map : Owner → Said → Said
one_map owner m = record m {
  dependencies = but (names m.optional) m.dependencies;
  dev = but (names m.optional ++ names m.dependencies) (dev_of owner m);
}

abbrev pub dependency_names : Said → List (List ℕ)
dependency_names m = names m.dependencies ++ (names m.dev ++ names m.optional)

-- Dependencies and peers under the manifest's own name are dropped, and peers whose name was a dependency before overrides.
abbrev pub dropped : List (List ℕ) → Said → Said
dropped before m = record m {
  dependencies = but (own_names m.name) m.dependencies;
  dev = but (own_names m.name) m.dev;
  optional = but (own_names m.name) m.optional;
  peers = peers_but (own_names m.name ++ before) m.peers;
}

-- What a hook makes of a manifest.
abbrev pub Hook : Type 0
Hook = Owner → Said → Said

abbrev pub no_hook : Hook
no_hook owner m = m

-- What overrides make of a manifest whose names count in one map each.
abbrev pub Rules : Type 1
Rules = Said → Said → Type 0

abbrev pub no_rules : Rules
no_rules m s = s ≡ m

-- Of a manifest that the hook was given: each name in one map, then the overrides, and then what is dropped.
pub record IsSeen (hook : Hook) (rules : Rules) (owner : Owner) (m s : Said) : Type 0 where
  pub overridden : Said
  pub by_rules : rules (one_map owner (hook owner m)) overridden
  pub is : s ≡ dropped (dependency_names (one_map owner (hook owner m))) overridden

-- without hooks and overrides
abbrev pub seen : Owner → Said → Said
seen owner m = dropped (dependency_names (one_map owner m)) (one_map owner m)

-- a peer that must be there, and that is no dependency
abbrev pub is_wanted : Said → Peer → Bool
is_wanted m p = not p.optional && not (is_among (dependency_names m) p.name)

abbrev pub pair_of : Peer → Pair
pair_of p = (p.name, p.text)

-- Where peers are installed by themselves, those that a project requires count as its dependencies. A project has no other
-- peers.
abbrev pub counted : Bool → Said → Said
counted false m = record m { peers = [] }
counted true m = record m { dependencies = m.dependencies ++ map pair_of (filter (is_wanted m) m.peers); peers = [] }

abbrev pub wish : Bool → Pair → Wish
wish optional e = record { alias = e.0; specifier = e.1; optional = optional; chosen = None }

abbrev pub put_wish : Wish → List Wish → List Wish
put_wish w [] = w ∷ []
put_wish w (x ∷ xs) = if is_lt (slice_cmp nat_cmp w.alias x.alias) then w ∷ x ∷ xs else x ∷ put_wish w xs

abbrev pub put_wishes : List Wish → List Wish → List Wish
put_wishes [] rest = rest
put_wishes (w ∷ ws) rest = put_wish w (put_wishes ws rest)

-- what a seen manifest asks for, in byte order of aliases
abbrev pub wishes_of : Said → List Wish
wishes_of m = put_wishes (map (wish false) m.dependencies) (put_wishes (map (wish false) m.dev) (put_wishes (map (wish true) m.optional) []))
