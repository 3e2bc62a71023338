pub mod Readings
pub mod Boxes
pub mod inner
