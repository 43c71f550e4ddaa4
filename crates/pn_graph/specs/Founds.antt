-- Packages that are met, each once.
use Rattle.std.specs.Prelude.{◌≡◌, ◌<◌, ◌≤◌, ◌+◌, ◌++◌, ℕ, suc, List, [], ◌∷◌, Bool, true, false, length, get_or, if◌then◌else◌}
use Rattle.std.specs.List.{Contains}
use Rattle.pn_text.specs.declared.index.PkgIx.{PkgIx}
use Rattle.pn_graph.specs.Graphs.{Package, Dep}
use Rattle.pn_graph.specs.Reaches.{LeadsTo, Leads, Reaches}

-- how many places have no mark
abbrev pub unmarked : List Bool → ℕ
unmarked [] = 0
unmarked (b ∷ bs) = if b then unmarked bs else suc (unmarked bs)

-- The places with a mark are those in the list, each once.
pub record IsMarked (seen : List Bool) (order : List ℕ) : Type 0 where
  pub once : length order + unmarked seen ≡ length seen
  pub listed : (k : ℕ) → get_or seen k false ≡ true → Contains order k
  pub marked : (k : ℕ) → Contains order k → get_or seen k false ≡ true

-- Some of these are added.
pub record Adds (These : ℕ → Type 0) (old new : List ℕ) : Type 0 where
  pub more : List ℕ
  pub is : new ≡ old ++ more
  pub each : (k : ℕ) → Contains more k → These k

-- All of these are there, and no others are added.
pub record AddsAll (These : ℕ → Type 0) (old new : List ℕ) : Type 0 where
  pub adds : Adds These old new
  pub all : (k : ℕ) → These k → Contains new k

-- Each dependency leads to one of that many packages.
abbrev pub AreWithin : ℕ → List Dep → Type 0
AreWithin count deps = (k : ℕ) → LeadsTo deps k → k < count

-- From a package, what is reached so far: those before a place lead to none but these.
pub record IsExplored (packages : List Package) (from at : ℕ) (order : List ℕ) : Type 0 where
  pub within : at ≤ length order
  pub start : Contains order from
  pub sound : (k : ℕ) → Contains order k → Reaches packages from k
  pub closed : (j : ℕ) → j < at → (k : ℕ) → Leads packages (get_or order j 0) k → Contains order k

-- the list has what is reached
pub record AreReached (packages : List Package) (from : ℕ) (order : List ℕ) : Type 0 where
  pub sound : (k : ℕ) → Contains order k → Reaches packages from k
  pub complete : (k : ℕ) → Reaches packages from k → Contains order k

-- the places with a mark
abbrev pub places_from : ℕ → List Bool → List PkgIx
places_from n [] = []
places_from n (b ∷ bs) = if b then record { 0 = n } ∷ places_from (suc n) bs else places_from (suc n) bs
