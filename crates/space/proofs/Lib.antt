pub mod Weaving
pub mod Tables
pub mod Spreading
pub mod Parts
pub mod Reading
pub mod Writing
pub mod Bits
pub mod Ends
