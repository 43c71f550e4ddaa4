pub mod Stands
pub mod Repairs
pub mod RepairFaults
pub mod Writes
