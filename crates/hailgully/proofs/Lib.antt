pub mod Filling
pub mod Boxes
pub mod Parts
pub mod Determined
