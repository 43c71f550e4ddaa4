-- Instances and their links.
use Rattle.std.specs.Prelude.{◌≡◌, ◌<◌, ◌&&◌, nat_lt, ℕ, List, [], Bool, Option, Some, None, length, slice_get}
use Rattle.std.specs.List.{Contains, list_all, list_any}
use Rattle.std.specs.Str.{bytes_eq}
pub use Rattle.pn_outer.specs.declared.instance.Goal.{Goal}
pub use Rattle.pn_outer.specs.declared.instance.Goal.TheVariants.{Project as to_project, Inst as to_instance}
pub use Rattle.pn_outer.specs.declared.instance.Link.{Link}
pub use Rattle.pn_outer.specs.declared.instance.Instance.{Instance}

abbrev pub deps_of : Option Instance → List Link
deps_of None = []
deps_of (Some i) = i.deps

abbrev pub peers_of : Option Instance → List Link
peers_of None = []
peers_of (Some i) = i.peers

-- the links of an instance: of its package's aliases, and its provided peers
abbrev pub deps_at : List Instance → ℕ → List Link
deps_at instances i = deps_of (slice_get instances i)

abbrev pub peers_at : List Instance → ℕ → List Link
peers_at instances i = peers_of (slice_get instances i)

abbrev pub has_alias : List ℕ → List Link → Bool
has_alias name links = list_any (λ (l : Link). bytes_eq name l.name) links

-- A link leads to the instance at a place.
pub record LeadsTo (links : List Link) (j : ℕ) : Type 0 where
  pub link : Link
  pub has : Contains links link
  pub to : link.to ≡ to_instance (record { 0 = j })

-- a dependency of one instance is another
abbrev pub DependsOn : List Instance → ℕ → ℕ → Type 0
DependsOn instances i j = LeadsTo (deps_at instances i) j

-- each dependency is one of the instances
abbrev pub AreInRange : List Instance → Type 0
AreInRange instances = (i j : ℕ) → DependsOn instances i j → j < length instances

-- what a link leads to is there
abbrev pub IsThere : ℕ → ℕ → Goal → Type 0
IsThere instances projects (to_project q) = q.0 < projects
IsThere instances projects (to_instance j) = j.0 < instances

-- each provided peer is one of the instances or of that many projects
abbrev pub ArePeersThere : ℕ → List Instance → Type 0
ArePeersThere projects instances = (i : ℕ) (pair : Link) → Contains (peers_at instances i) pair → IsThere (length instances) projects pair.to

abbrev pub goal_there : ℕ → ℕ → Goal → Bool
goal_there instances projects (to_project q) = nat_lt q.0 projects
goal_there instances projects (to_instance j) = nat_lt j.0 instances

abbrev pub is_there : ℕ → ℕ → Link → Bool
is_there instances projects link = goal_there instances projects link.to

abbrev pub are_there : ℕ → ℕ → Instance → Bool
are_there instances projects i = list_all (is_there instances projects) i.deps && list_all (is_there instances projects) i.peers
