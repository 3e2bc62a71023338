pub mod Space
pub mod Bits
pub mod inner
