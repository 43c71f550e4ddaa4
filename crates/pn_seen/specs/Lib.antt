pub mod Owners
pub mod AskedLaws
