-- Walks over places, and places that are met, each once.
use Rattle.std.specs.Prelude.{◌≡◌, ◌<◌, ◌≤◌, ◌+◌, ◌++◌, ℕ, suc, List, [], ◌∷◌, Bool, true, false, length, slice_index, slice_index_or, if◌then◌else◌}
use Rattle.std.specs.List.{Contains}

-- A walk leads from one of the first places, by steps.
pub data Walks (Leads : ℕ → ℕ → Type 0) (Starts : ℕ → Type 0) : ℕ → Type 0 where
  first : (k : ℕ) → Starts k → Walks Leads Starts k
  next : (j k : ℕ) → Walks Leads Starts j → Leads j k → Walks Leads Starts k

-- The marks of that many places say which these are.
pub record AreMarks (count : ℕ) (These : ℕ → Type 0) (marks : List Bool) : Type 0 where
  pub count_is : length marks ≡ count
  pub right : (k : ℕ) → slice_index_or marks k false ≡ true → These k
  pub all : (k : ℕ) → These k → slice_index_or marks k false ≡ true

-- how many places have no mark
abbrev pub unmarked : List Bool → ℕ
unmarked [] = 0
unmarked (b ∷ bs) = if b then unmarked bs else suc (unmarked bs)

-- The places with a mark are those in the list, each once.
pub record IsMarked (seen : List Bool) (order : List ℕ) : Type 0 where
  pub once : length order + unmarked seen ≡ length seen
  pub listed : (k : ℕ) → slice_index_or seen k false ≡ true → Contains order k
  pub marked : (k : ℕ) → Contains order k → slice_index_or seen k false ≡ true

-- All of these are there, and no others are added.
pub record AddsAll (These : ℕ → Type 0) (old new : List ℕ) : Type 0 where
  pub more : List ℕ
  pub is : new ≡ old ++ more
  pub each : (k : ℕ) → Contains more k → These k
  pub all : (k : ℕ) → These k → Contains new k

-- Of what is met so far, those before a place lead to none but these.
pub record IsExplored (Leads : ℕ → ℕ → Type 0) (Starts : ℕ → Type 0) (at : ℕ) (order : List ℕ) : Type 0 where
  pub within : at ≤ length order
  pub start : (k : ℕ) → Starts k → Contains order k
  pub sound : (k : ℕ) → Contains order k → Walks Leads Starts k
  pub closed : (j : ℕ) → j < at → (k : ℕ) → Leads (slice_index order j) k → Contains order k

-- the list has exactly those
pub record AreMet (Leads : ℕ → ℕ → Type 0) (Starts : ℕ → Type 0) (order : List ℕ) : Type 0 where
  pub sound : (k : ℕ) → Contains order k → Walks Leads Starts k
  pub complete : (k : ℕ) → Walks Leads Starts k → Contains order k
