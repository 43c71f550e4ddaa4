pub mod Trees
pub mod Sound
pub mod Laws
pub mod Relatives
pub mod Leaves
pub mod Drawn
pub mod Refusals
