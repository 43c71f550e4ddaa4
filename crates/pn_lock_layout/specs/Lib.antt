-- what contracts cite
pub mod Places
pub mod Layouts
pub mod Placed
pub mod Closed
pub mod Folders
pub mod Laws
pub mod Rows
