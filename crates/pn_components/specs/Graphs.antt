-- Graphs: places, and edges that lead from one to another.
use Rattle.std.specs.Prelude.{◌≡◌, ◌≤◌, ◌<◌, ◌↔◌, ℕ, List, length, get_or}
use Rattle.std.specs.List.{All, Contains}

abbrev pub Edges : Type 0
Edges = List (ℕ × ℕ)

-- an edge leads from one place to another
abbrev pub Leads : Edges → ℕ → ℕ → Type 0
Leads edges a b = Contains edges (a, b)

-- Edges lead from a place to another, or it is that place itself.
pub data Reaches (Leads : ℕ → ℕ → Type 0) (from : ℕ) : ℕ → Type 0 where
  itself : Reaches Leads from from
  through : (a b : ℕ) → Reaches Leads from a → Leads a b → Reaches Leads from b

-- These are the numbers of the strong components of that many places, targets first, and none is left out.
pub record AreComponents (count : ℕ) (edges : Edges) (numbers : List ℕ) : Type 0 where
  pub all : length numbers ≡ count
  pub few : All (λ n. n < count) numbers
  pub used : (a n : ℕ) → a < count → n ≤ get_or numbers a 0 → (b : ℕ) × (b < count) × (get_or numbers b 0 ≡ n)
  pub together : (a b : ℕ) → a < count → b < count → (get_or numbers a 0 ≡ get_or numbers b 0) ↔ (Reaches (Leads edges) a b × Reaches (Leads edges) b a)
  pub targets_first : (a b : ℕ) → Leads edges a b → get_or numbers b 0 ≤ get_or numbers a 0
