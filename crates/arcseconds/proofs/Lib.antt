pub mod Exits
pub mod Whole
pub mod Pattern
pub mod Number
pub mod Exact
pub mod Meaning
pub mod Ends
pub mod Theorems
