pub mod Offsets
pub mod Text
pub mod Meaning
pub mod inner
