-- What is reached is the least set with the start that dependencies don't lead out of.
use Rattle.std.specs.Prelude.{◌≡◌, ℕ, List, Bool, true}
use Rattle.pn_graph.specs.Graphs.{Package}
use Rattle.pn_graph.specs.Reaches.{Leads, Reaches}

abbrev pub IsClosed : List Package → (ℕ → Bool) → Type 0
IsClosed packages set = (i k : ℕ) → set i ≡ true → Leads packages i k → set k ≡ true

pub record ReachLaw : Type 0 where
  pub own : (packages : List Package) (k : ℕ) → Reaches packages k k
  pub direct : (packages : List Package) (i k : ℕ) → Leads packages i k → Reaches packages i k
  pub onward : (packages : List Package) (i j k : ℕ) → Reaches packages i j → Reaches packages j k → Reaches packages i k
  pub least : (packages : List Package) (from : ℕ) (set : ℕ → Bool) → set from ≡ true → IsClosed packages set → (k : ℕ) → Reaches packages from k → set k ≡ true
