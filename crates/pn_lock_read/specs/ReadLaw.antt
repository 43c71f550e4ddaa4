-- What is printed is read back.
use Rattle.std.specs.Prelude.{◌≡◌, ℕ, List, true, Ok}
use Rattle.std.specs.Str.{is_utf8}
use Rattle.pn_yaml_print.specs.Printing.{marked, printed}
use Rattle.pn_lock.specs.Kept.{IsLock}
use Rattle.pn_lock.specs.Locks.{Locked}
use Rattle.pn_lock_print.specs.LockData.{lock_data}
use Rattle.pn_lock_read.specs.LockTexts.{Spells, lock_of}

-- the data that is printed of a lock says that lock, and so does its text, and a text spells one lock at most
pub record ReadLaw : Type 0 where
  pub back : (l : Locked) → IsLock l → lock_of (marked (lock_data l)) ≡ Ok l
  pub text : (l : Locked) → IsLock l → is_utf8 (printed (lock_data l)) ≡ true → Spells (printed (lock_data l)) l
  pub one : (text : List ℕ) (l m : Locked) → Spells text l → Spells text m → l ≡ m
