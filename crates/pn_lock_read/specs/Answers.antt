-- What the functions that read answer, memory aside.
use Rattle.std.specs.Prelude.{◌≡◌, ◌⊎◌, Result, Ok, Err}
use Rattle.pn_lock_read.specs.declared.fault.LockFault.{LockFault}
use Rattle.pn_lock_read.specs.declared.fault.LockFault.TheVariants as fault
use Rattle.pn_lock_read.specs.Settling.{Settled}

abbrev pub Fails : {A : Type 0} → LockFault → Settled A → Type 0
Fails fault.Memory outcome = Unit {0}
Fails (fault.Version text) outcome = outcome ≡ Err (fault.Version text)
Fails (fault.Shape keys) outcome = outcome ≡ Err (fault.Shape keys)
Fails (fault.Dangling from to) outcome = outcome ≡ Err (fault.Dangling from to)

abbrev pub Settles : {A : Type 0} → Result A LockFault → Settled A → Type 0
Settles (Ok x) outcome = outcome ≡ Ok x
Settles (Err e) outcome = Fails e outcome

-- this fault, or no memory to say so
abbrev pub IsFault : LockFault → LockFault → Type 0
IsFault e result = (result ≡ fault.Memory) ⊎ (result ≡ e)

abbrev pub no_memory : LockFault
no_memory = fault.Memory
