-- The integrities that a lock has.
use Rattle.std.specs.Prelude.{ℕ, List, [], ◌∷◌, Option, Some, None, if◌then◌else◌, bytes_eq}
use Rattle.pn_lock.specs.declared.lists.LockPackage.{LockPackage}
use Rattle.pn_lock.specs.Locks.{Locked}
use Rattle.pn_wanted.specs.declared.wanted.Wanted.{Wanted}

-- the integrity of the package with the id
abbrev pub locked_in : List ℕ → List LockPackage → Option (List ℕ)
locked_in id [] = None
locked_in id (p ∷ ps) = if bytes_eq p.id id then Some p.integrity else locked_in id ps

abbrev pub locked_at : Option Locked → List ℕ → Option (List ℕ)
locked_at None id = None
locked_at (Some l) id = locked_in id l.packages

abbrev pub wanted_of : List LockPackage → List ℕ → Wanted
wanted_of packages id = record { id = id; locked = locked_in id packages }
