-- The packages that dependencies lead to.
use Rattle.std.specs.Prelude.{◌≡◌, ◌<◌, ℕ, List, slice_get}
use Rattle.std.specs.List.{AllPairs, Contains}
use Rattle.pn_text.specs.declared.index.PkgIx.{PkgIx}
use Rattle.pn_graph.specs.Graphs.{Dep, Package, to_package}
use Rattle.pn_graph.specs.Lookups.{package_deps}

-- A dependency leads to the package at a place.
pub record LeadsTo (deps : List Dep) (k : ℕ) : Type 0 where
  pub dep : Dep
  pub has : Contains deps dep
  pub to : dep.to ≡ to_package (record { 0 = k })

-- A dependency of the package at one place leads to that at another.
abbrev pub Leads : List Package → ℕ → ℕ → Type 0
Leads packages i k = LeadsTo (package_deps (slice_get packages i)) k

-- Dependencies lead from one package to another, through packages alone.
pub data Reaches (packages : List Package) (from : ℕ) : ℕ → Type 0 where
  itself : Reaches packages from from
  through : (i k : ℕ) → Reaches packages from i → Leads packages i k → Reaches packages from k

-- The list has exactly the packages that are reached, rising, each once.
pub record IsReach (packages : List Package) (from : ℕ) (found : List PkgIx) : Type 0 where
  pub rises : AllPairs (λ (a b : PkgIx). a.0 < b.0) found
  pub reached : (k : PkgIx) → Contains found k → Reaches packages from k.0
  pub all : (k : PkgIx) → Reaches packages from k.0 → Contains found k
