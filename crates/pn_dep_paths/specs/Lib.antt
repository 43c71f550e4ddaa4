-- what contracts cite
pub mod Relation
pub mod BaseTexts
pub mod Steps
pub mod Converted
pub mod PathsLaw
pub mod DepPaths
