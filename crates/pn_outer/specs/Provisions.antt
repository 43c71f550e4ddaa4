-- The peers that are provided, and to which instances.
use Rattle.std.specs.Prelude.{◌≡◌, ◌⊎◌, ◌<◌, ℕ, List, [], Some, length, get_or, slice_get}
use Rattle.std.specs.List.{Contains}
use Rattle.pn_outer.specs.Instances.{Instance, Link, peers_at}

-- A pair is there, with an instance that it is provided to.
pub record HasHolder (pairs : List Link) (holders : List (List ℕ)) (i : ℕ) (pair : Link) : Type 0 where
  pub number : ℕ
  pub at : slice_get pairs number ≡ Some pair
  pub holds : Contains (get_or holders number []) i

-- One more instance has a pair.
pub record AddsHolder (i : ℕ) (pair : Link) (pairs : List Link) (holders : List (List ℕ)) (pairs' : List Link) (holders' : List (List ℕ)) : Type 0 where
  pub kept : (k : ℕ) (l : Link) → HasHolder pairs holders k l → HasHolder pairs' holders' k l
  pub added : HasHolder pairs' holders' i pair
  pub only : (k : ℕ) (l : Link) → HasHolder pairs' holders' k l → HasHolder pairs holders k l ⊎ ((k ≡ i) × (l ≡ pair))

-- An instance has these pairs too.
pub record AddsHolders (i : ℕ) (links : List Link) (pairs : List Link) (holders : List (List ℕ)) (pairs' : List Link) (holders' : List (List ℕ)) : Type 0 where
  pub kept : (k : ℕ) (l : Link) → HasHolder pairs holders k l → HasHolder pairs' holders' k l
  pub added : (l : Link) → Contains links l → HasHolder pairs' holders' i l
  pub only : (k : ℕ) (l : Link) → HasHolder pairs' holders' k l → HasHolder pairs holders k l ⊎ ((k ≡ i) × Contains links l)

-- The pairs and their instances are exactly the provided peers.
pub record AreProvided (instances : List Instance) (pairs : List Link) (holders : List (List ℕ)) : Type 0 where
  pub right : (i : ℕ) (pair : Link) → HasHolder pairs holders i pair → Contains (peers_at instances i) pair
  pub all : (i : ℕ) (pair : Link) → Contains (peers_at instances i) pair → HasHolder pairs holders i pair
