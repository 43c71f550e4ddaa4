-- The outer pairs of an instance: the peers that its text names.
use Rattle.std.specs.Prelude.{◌≡◌, ℕ, List, [], Bool, true, false, Some, length, get_or, slice_get}
use Rattle.std.specs.List.{Contains}
use Rattle.pn_outer.specs.Instances.{Instance, Link, DependsOn, deps_at, has_alias, peers_at}

-- A provided peer is an outer pair, and so is an outer pair of a dependency whose name is no alias of the instance's own
-- package.
pub data IsOuter (instances : List Instance) (pair : Link) : ℕ → Type 0 where
  provided : (i : ℕ) → Contains (peers_at instances i) pair → IsOuter instances pair i
  below : (i j : ℕ) → DependsOn instances i j → has_alias pair.name (deps_at instances i) ≡ false → IsOuter instances pair j → IsOuter instances pair i

-- A pair that has that number is an outer pair of an instance.
pub record IsNamed (instances : List Instance) (pairs : List Link) (i p : ℕ) : Type 0 where
  pub pair : Link
  pub at : slice_get pairs p ≡ Some pair
  pub outer : IsOuter instances pair i

-- A pair has one of these numbers.
pub record HasNumber (pairs : List Link) (row : List ℕ) (pair : Link) : Type 0 where
  pub number : ℕ
  pub has : Contains row number
  pub at : slice_get pairs number ≡ Some pair

-- The numbers of each instance are those of exactly its outer pairs.
pub record AreOuter (instances : List Instance) (pairs : List Link) (rows : List (List ℕ)) : Type 0 where
  pub count : length rows ≡ length instances
  pub right : (i p : ℕ) → Contains (get_or rows i []) p → IsNamed instances pairs i p
  pub all : (i : ℕ) (pair : Link) → IsOuter instances pair i → HasNumber pairs (get_or rows i []) pair

-- What is outer by the two rules is in each set that keeps to them.
pub record OuterLaw : Type 0 where
  pub least : (instances : List Instance) (pair : Link) (set : ℕ → Bool)
      → ((i : ℕ) → Contains (peers_at instances i) pair → set i ≡ true)
      → ((i j : ℕ) → DependsOn instances i j → has_alias pair.name (deps_at instances i) ≡ false → set j ≡ true → set i ≡ true)
      → (i : ℕ) → IsOuter instances pair i → set i ≡ true
