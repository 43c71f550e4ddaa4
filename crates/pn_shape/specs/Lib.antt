pub mod Shapes
pub mod Words
pub mod Fits
pub mod ShapeLaws
pub mod DepLists
