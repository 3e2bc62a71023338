pub mod Follow
pub mod SoFar
pub mod Step
pub mod Levels
