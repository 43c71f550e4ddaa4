-- What an entry holds as a lockfile, and what is wrong with it.
use Rattle.std.specs.Prelude.{◌≡◌, ◌≤◌, ◌+◌, ℕ, nat_le, List, [], length, Option, Some, None, Ok, Err, if◌then◌else◌}
use Rattle.pn_fs.specs.Tree.{Entry, folder, file, link}
use Rattle.pn_yaml.specs.Blocks.{says}
use Rattle.pn_yaml.specs.Data.{Data}
use Rattle.pn_yaml.specs.declared.fault.YamlFault.TheVariants as yaml
use Rattle.pn_lock_read.specs.LockTexts.{lock_of}
use Rattle.pn_lock_read.specs.declared.fault.LockFault.{LockFault}
use Rattle.pn_lock_read.specs.declared.fault.LockFault.TheVariants as lock
use Rattle.pn_lockfile.specs.declared.fault.LockWhy.{LockWhy}
use Rattle.pn_lockfile.specs.declared.fault.LockWhy.TheVariants as why
use Rattle.pn_lockfile.specs.declared.limits.TheConstants.{LOCKFILE_LIMIT}

-- the bytes of an entry: those of a file, and none of a folder or a link
abbrev pub bytes_at : Option Entry → Option (List ℕ)
bytes_at None = None
bytes_at (Some folder) = Some []
bytes_at (Some (file bytes)) = Some bytes
bytes_at (Some (link text)) = Some []

-- so many bytes are read of an entry at most: of a file past the limit none
abbrev pub most_read : Option Entry → ℕ
most_read None = 0
most_read (Some folder) = 0
most_read (Some (file bytes)) = if nat_le (length bytes) LOCKFILE_LIMIT then length bytes + 1 else 0
most_read (Some (link text)) = 0

-- bytes say data, which is no lock for that reason
abbrev pub SaysNoLock : List ℕ → LockFault → Type 0
SaysNoLock bytes e = (form : Data) × (says bytes ≡ Ok form) × (lock_of form ≡ Err e)

-- what is wrong with bytes as a lockfile
abbrev pub WrongBytes : List ℕ → LockWhy → Type 0
WrongBytes bytes why.NotUtf8 = says bytes ≡ Err yaml.NotUtf8
WrongBytes bytes (why.Line n w) = says bytes ≡ Err (yaml.Line n w)
WrongBytes bytes why.TooDeep = says bytes ≡ Err yaml.TooDeep
WrongBytes bytes (why.Version text) = SaysNoLock bytes (lock.Version text)
WrongBytes bytes (why.Shape keys) = SaysNoLock bytes (lock.Shape keys)
WrongBytes bytes (why.Dangling from to) = SaysNoLock bytes (lock.Dangling from to)

-- what is wrong with the bytes of an entry, which are within the limit
pub record IsWrong (e : Option Entry) (w : LockWhy) : Type 0 where
  pub bytes : List ℕ
  pub is : bytes_at e ≡ Some bytes
  pub short : length bytes ≤ LOCKFILE_LIMIT
  pub wrong : WrongBytes bytes w
