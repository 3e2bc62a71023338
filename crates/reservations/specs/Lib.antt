pub mod Naming
pub mod Meeting
pub mod inner
