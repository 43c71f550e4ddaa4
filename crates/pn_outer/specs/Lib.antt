-- what contracts cite
pub mod Instances
pub mod Outer
pub mod Founds
pub mod Dependents
pub mod Provisions
