-- The exit status of each way to end.
use Rattle.std.specs.Prelude.{ℕ}
use Rattle.pn_status.specs.declared.status.Status.{Status}
use Rattle.pn_status.specs.declared.status.Status.TheVariants.{Done, Memory, Usage, Manifest, NoVersion, Unsupported, Integrity, Foreign, Limit, Bundled, DigestClash, ProjectFault, StoreFault, RegistryFault, SinkFault, NotYet}

abbrev pub code_of : Status → ℕ
code_of Done = 0
code_of Memory = 1
code_of Usage = 2
code_of (Manifest path why) = 3
code_of (NoVersion edge) = 6
code_of (Unsupported edge) = 7
code_of (Integrity why) = 9
code_of (Foreign path) = 10
code_of (Limit which n) = 11
code_of (Bundled id path) = 13
code_of (DigestClash at) = 14
code_of ProjectFault = 20
code_of StoreFault = 21
code_of RegistryFault = 22
code_of SinkFault = 23
code_of (NotYet text) = 30
