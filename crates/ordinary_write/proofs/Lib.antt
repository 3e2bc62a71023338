pub mod Direct
pub mod Stores
pub mod Codes
