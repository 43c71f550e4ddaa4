-- What is printed of a lock may be printed.
use Rattle.std.proofs.Common.{◌≡◌, refl, sym, subst}
use Rattle.pn_yaml.specs.Data.{Data}
use Rattle.pn_yaml_print.specs.Laws.{IsPrintable}
use Rattle.pn_lock.specs.Kept.{IsLock}
use Rattle.pn_lock.specs.Locks.{Locked}
use Rattle.pn_lock_print.specs.LockData.{lock_data}
use Rattle.pn_lock_print.proofs.ApartLemmas.{lock_apart}
use Rattle.pn_lock_print.proofs.DepthLemmas.{lock_flat}

pub lock_printable : (l : Locked) (d : Data) → IsLock l → d ≡ lock_data l → IsPrintable d
lock_printable l d h e = subst IsPrintable (sym e) (record { map = refl; apart = lock_apart l h; flat = lock_flat l })
