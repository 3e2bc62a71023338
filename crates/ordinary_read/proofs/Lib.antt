pub mod Steps
pub mod Levels
