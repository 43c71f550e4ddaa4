-- What is printed of a lock may be printed.
use Rattle.std.specs.Prelude.{◌≡◌, ◌≤◌, true}
use Rattle.pn_yaml.specs.Data.{depth, are_apart}
use Rattle.pn_lock.specs.Kept.{IsLock}
use Rattle.pn_lock.specs.Locks.{Locked}
use Rattle.pn_lock_print.specs.LockData.{lock_data}

-- no map of a lock's data has a key twice, and few levels are nested
pub record LockLaw : Type 0 where
  pub apart : (l : Locked) → IsLock l → are_apart (lock_data l) ≡ true
  pub flat : (l : Locked) → IsLock l → depth (lock_data l) ≤ 64
