-- The lockfile that is found at a path, and why there is none.
use Rattle.std.specs.Prelude.{◌≡◌, ◌≤◌, ◌<◌, ℕ, List, length, Option, Some, None, IfSome}
use Rattle.pn_text.specs.Causes.{Rose}
use Rattle.pn_text.specs.Path.{Path}
use Rattle.pn_fs.specs.Seen.{Seen}
use Rattle.pn_fs.specs.Tree.{Entry, Tree, file}
use Rattle.pn_read.specs.Small.{IsFileOf}
use Rattle.pn_yaml.specs.declared.fault.YamlFault.{YamlFault}
use Rattle.pn_yaml.specs.declared.fault.YamlFault.TheVariants as yaml
use Rattle.pn_lock_read.specs.LockTexts.{Spells}
use Rattle.pn_lock_read.specs.declared.fault.LockFault.{LockFault}
use Rattle.pn_lock_read.specs.declared.fault.LockFault.TheVariants as lock
use Rattle.pn_lockfile.specs.Contents.{IsWrong, WrongBytes}
use Rattle.pn_lockfile.specs.declared.fault.LockWhy.TheVariants as why
use Rattle.pn_lockfile.specs.declared.fault.LockfileFault.{LockfileFault}
use Rattle.pn_lockfile.specs.declared.fault.LockfileFault.TheVariants as fault
use Rattle.pn_lockfile.specs.declared.limits.TheConstants.{LOCKFILE_LIMIT}
use Rattle.pn_lockfile.specs.declared.reading.Found.{Found}

-- A file of these bytes, within the limit, which spell the lock.
pub record IsLockfile (e : Option Entry) (f : Found) : Type 0 where
  pub is : e ≡ Some (file f.bytes.items)
  pub short : length f.bytes.items ≤ LOCKFILE_LIMIT
  pub spells : Spells f.bytes.items f.lock

-- what is found at an entry: none exactly where nothing stands
abbrev pub IsFound : Option Entry → Option Found → Type 0
IsFound e None = e ≡ None
IsFound e (Some f) = IsLockfile e f

-- why no lockfile is read at a path
abbrev pub NoLockfile : Option Tree → Path → LockfileFault → Type 0
NoLockfile shown p (fault.Wrong w) = IfSome shown (λ t. IsWrong (t p) w)
NoLockfile shown p (fault.TooLarge n) = (LOCKFILE_LIMIT < n) × IfSome shown (λ t. IsFileOf n (t p))
NoLockfile shown p fault.Fault = Unit {0}
NoLockfile shown p fault.Memory = Unit {0}

-- The same between two states of the tree: a fault is answered only where its count rose.
abbrev pub Refused : Seen → Seen → Path → LockfileFault → Type 0
Refused old new p fault.Fault = Rose old.faults new.faults
Refused old new p e = NoLockfile old.tree p e

-- why bytes spell no lock
abbrev pub Unspelled : List ℕ → LockfileFault → Type 0
Unspelled bytes (fault.Wrong w) = WrongBytes bytes w
Unspelled bytes (fault.TooLarge n) = ⊥
Unspelled bytes fault.Fault = ⊥
Unspelled bytes fault.Memory = Unit {0}

-- the refusal of bytes that say no data, and of data that is no lock
abbrev pub of_yaml : YamlFault → LockfileFault
of_yaml yaml.NotUtf8 = fault.Wrong why.NotUtf8
of_yaml (yaml.Line n w) = fault.Wrong (why.Line n w)
of_yaml yaml.TooDeep = fault.Wrong why.TooDeep
of_yaml yaml.Memory = fault.Memory

abbrev pub of_lock : LockFault → LockfileFault
of_lock (lock.Version text) = fault.Wrong (why.Version text)
of_lock (lock.Shape keys) = fault.Wrong (why.Shape keys)
of_lock (lock.Dangling from to) = fault.Wrong (why.Dangling from to)
of_lock lock.Memory = fault.Memory
