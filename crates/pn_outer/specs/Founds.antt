-- Instances that are met, each once.
use Rattle.std.specs.Prelude.{◌≡◌, ◌⊎◌, ◌<◌, ◌≤◌, ◌+◌, ◌++◌, ℕ, suc, List, [], ◌∷◌, Bool, true, false, length, get_or, if◌then◌else◌}
use Rattle.std.specs.List.{Contains}
use Rattle.pn_outer.specs.Instances.{Instance, deps_at, has_alias}

-- how many places have no mark
abbrev pub unmarked : List Bool → ℕ
unmarked [] = 0
unmarked (b ∷ bs) = if b then unmarked bs else suc (unmarked bs)

-- The places with a mark are those in the list, each once.
pub record IsMarked (seen : List Bool) (order : List ℕ) : Type 0 where
  pub once : length order + unmarked seen ≡ length seen
  pub listed : (k : ℕ) → get_or seen k false ≡ true → Contains order k
  pub marked : (k : ℕ) → Contains order k → get_or seen k false ≡ true

-- All of these are there, and no others are added.
pub record AddsAll (These : ℕ → Type 0) (old new : List ℕ) : Type 0 where
  pub more : List ℕ
  pub is : new ≡ old ++ more
  pub each : (k : ℕ) → Contains more k → These k
  pub all : (k : ℕ) → These k → Contains new k

-- One of these whose package has no such alias.
pub record IsOpen (instances : List Instance) (name : List ℕ) (row : List ℕ) (k : ℕ) : Type 0 where
  pub among : Contains row k
  pub free : has_alias name (deps_at instances k) ≡ false

-- a pair of that name goes from one instance to another that depends on it
abbrev pub Passes : List Instance → List ℕ → List (List ℕ) → ℕ → ℕ → Type 0
Passes instances name dependents j k = IsOpen instances name (get_or dependents j []) k

-- What is had first, and what steps lead to from there.
pub data Gets (Leads : ℕ → ℕ → Type 0) (Starts : ℕ → Type 0) : ℕ → Type 0 where
  first : (k : ℕ) → Starts k → Gets Leads Starts k
  next : (j k : ℕ) → Gets Leads Starts j → Leads j k → Gets Leads Starts k

-- Of what is met so far, those before a place lead to none but these.
pub record IsExplored (Leads : ℕ → ℕ → Type 0) (Starts : ℕ → Type 0) (at : ℕ) (order : List ℕ) : Type 0 where
  pub within : at ≤ length order
  pub start : (k : ℕ) → Starts k → Contains order k
  pub sound : (k : ℕ) → Contains order k → Gets Leads Starts k
  pub closed : (j : ℕ) → j < at → (k : ℕ) → Leads (get_or order j 0) k → Contains order k

-- the list has exactly those
pub record AreMet (Leads : ℕ → ℕ → Type 0) (Starts : ℕ → Type 0) (order : List ℕ) : Type 0 where
  pub sound : (k : ℕ) → Contains order k → Gets Leads Starts k
  pub complete : (k : ℕ) → Gets Leads Starts k → Contains order k

-- no instance has a pair
abbrev pub AreNone : List (List ℕ) → Type 0
AreNone rows = (i : ℕ) → get_or rows i [] ≡ []

-- These instances have a pair too.
pub record AddsPair (pair : ℕ) (These : ℕ → Type 0) (old new : List (List ℕ)) : Type 0 where
  pub kept : (i p : ℕ) → Contains (get_or old i []) p → Contains (get_or new i []) p
  pub added : (i : ℕ) → These i → Contains (get_or new i []) pair
  pub only : (i p : ℕ) → Contains (get_or new i []) p → Contains (get_or old i []) p ⊎ ((p ≡ pair) × These i)
