-- A known tree gives one answer.
use Rattle.std.specs.Prelude.{◌≡◌, Option, Some, None}
use Rattle.pn_text.specs.Path.{Path}
use Rattle.pn_fs.specs.Tree.{Tree}
use Rattle.pn_lockfile.specs.Reads.{IsFound, NoLockfile}
use Rattle.pn_lockfile.specs.declared.fault.LockfileFault.{LockfileFault}
use Rattle.pn_lockfile.specs.declared.fault.LockfileFault.TheVariants as fault
use Rattle.pn_lockfile.specs.declared.reading.Found.{Found}

-- neither want of memory nor a fault
abbrev pub IsOwn : LockfileFault → Type 0
IsOwn (fault.Wrong w) = Unit {0}
IsOwn (fault.TooLarge n) = Unit {0}
IsOwn fault.Fault = ⊥
IsOwn fault.Memory = ⊥

-- one lock and the same bytes, or none
abbrev pub AreOne : Option Found → Option Found → Type 0
AreOne None None = Unit {0}
AreOne None (Some g) = ⊥
AreOne (Some f) None = ⊥
AreOne (Some f) (Some g) = (f.lock ≡ g.lock) × (f.bytes.items ≡ g.bytes.items)

-- At a path of a known tree at most one lockfile is found, at most one refusal comes, and never both.
pub record AnswerLaw : Type 0 where
  pub value : (t : Tree) (p : Path) (a b : Option Found) → IsFound (t p) a → IsFound (t p) b → AreOne a b
  pub refusal : (t : Tree) (p : Path) (e f : LockfileFault) → IsOwn e → IsOwn f → NoLockfile (Some t) p e → NoLockfile (Some t) p f → e ≡ f
  pub either : (t : Tree) (p : Path) (a : Option Found) (e : LockfileFault) → IsOwn e → IsFound (t p) a → NoLockfile (Some t) p e → ⊥
