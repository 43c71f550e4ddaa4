-- The refusals of the writing.
use Rattle.pn_repair.specs.declared.fault.RepairFault.{RepairFault}
use Rattle.pn_repair.specs.declared.fault.RepairFault.TheVariants.{Fault, StoreFault as FaultStore, Stored, Memory as NoMemory}
use Rattle.pn_status.specs.declared.status.IntegrityWhy.TheVariants.{Stored as of_store}
use Rattle.pn_status.specs.declared.status.Status.{Status}
use Rattle.pn_status.specs.declared.status.Status.TheVariants.{Memory, Integrity, ProjectFault, StoreFault}

-- the status that tells of a refusal
abbrev pub repair_status : RepairFault → Status
repair_status Fault = ProjectFault
repair_status FaultStore = StoreFault
repair_status (Stored at found) = Integrity (of_store at found)
repair_status NoMemory = Memory
