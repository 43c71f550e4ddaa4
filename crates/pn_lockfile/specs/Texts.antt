-- Why a lock has no text.
use Rattle.std.specs.Prelude.{◌≡◌, ◌<◌, ℕ, List, length}
use Rattle.pn_lockfile.specs.declared.fault.TextFault.{TextFault}
use Rattle.pn_lockfile.specs.declared.fault.TextFault.TheVariants as fault
use Rattle.pn_lockfile.specs.declared.limits.TheConstants.{LOCKFILE_LIMIT}

-- the text would have so many bytes
abbrev pub Untold : List ℕ → TextFault → Type 0
Untold text (fault.TooLarge n) = (LOCKFILE_LIMIT < n) × (n ≡ length text)
Untold text fault.Memory = Unit {0}
