-- What data and texts say as a lockfile.
use Rattle.std.specs.Prelude.{◌≡◌, ℕ, List, [], reverse, Option, Some, None, Ok, Err, if◌then◌else◌, bytes_eq, codes}
use Rattle.std.specs.List.{join_with_byte}
use Rattle.pn_yaml.specs.Blocks.{says}
use Rattle.pn_yaml.specs.Data.{Data, scalar, list}
use Rattle.pn_yaml.specs.Data.{map as map_data}
use Rattle.pn_lock.specs.Locks.{Locked}
use Rattle.pn_lock_shape.specs.declared.drafts.Draft.{Draft}
use Rattle.pn_lock_shape.specs.declared.fault.ShapeFault.{ShapeFault}
use Rattle.pn_lock_shape.specs.declared.fault.ShapeFault.TheVariants as shape
use Rattle.pn_lock_shape.specs.Bare.{bare}
use Rattle.pn_lock_shape.specs.Reading.{draft_in}
use Rattle.pn_lock_shape.specs.Shapes.{Outcome, get}
use Rattle.pn_lock_read.specs.declared.fault.LockFault.{LockFault}
use Rattle.pn_lock_read.specs.declared.fault.LockFault.TheVariants as fault
use Rattle.pn_lock_read.specs.Settling.{Settled, settled}

-- the text of `lockfileVersion`, or no text where there is none
abbrev pub version_in : Option Data → List ℕ
version_in None = []
version_in (Some (scalar text plain)) = text
version_in (Some (list ds)) = []
version_in (Some (map_data ms)) = []

abbrev pub version_of : Data → List ℕ
version_of (scalar text plain) = []
version_of (list ds) = []
version_of (map_data ms) = version_in (get (codes "lockfileVersion") ms)

-- keys from the top, joined by `>`
abbrev pub keys_text : List (List ℕ) → List ℕ
keys_text keys = join_with_byte 62 (reverse keys)

abbrev pub shape_fault : ShapeFault → LockFault
shape_fault (shape.At keys) = fault.Shape (keys_text keys)
shape_fault shape.Memory = fault.Memory

abbrev pub from_draft : Outcome Draft → Settled Locked
from_draft (Ok d) = settled d
from_draft (Err e) = Err (shape_fault e)

-- the lock that data says, or why it says none: its version is looked at first, then all its forms, then all its targets
abbrev pub lock_in : Data → Settled Locked
lock_in d = if bytes_eq (version_of d) (codes "9.0") then from_draft (draft_in d) else Err (fault.Version (version_of d))

abbrev pub lock_of : Data → Settled Locked
lock_of d = lock_in (bare d)

-- a text spells a lock
pub record Spells (text : List ℕ) (l : Locked) : Type 0 where
  pub form : Data
  pub yaml : says text ≡ Ok form
  pub lock : lock_of form ≡ Ok l
