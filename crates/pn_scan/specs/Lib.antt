pub mod Managed
pub mod Scans
pub mod ScanFaults
pub mod Looks
pub mod Turns
