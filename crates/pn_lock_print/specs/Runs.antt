-- Entries of one catalog that stand together.
use Rattle.std.specs.Prelude.{ℕ, suc, List, [], ◌∷◌, if◌then◌else◌, bytes_eq}
use Rattle.pn_lock.specs.declared.lists.LockCatalog.{LockCatalog}

-- how many entries at the beginning are of a catalog
abbrev pub run_of : List ℕ → List LockCatalog → ℕ
run_of catalog [] = 0
run_of catalog (e ∷ es) = if bytes_eq e.catalog catalog then suc (run_of catalog es) else 0
