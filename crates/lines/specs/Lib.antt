pub mod Text
pub mod Lines
pub mod Filling
pub mod Run
pub mod inner
