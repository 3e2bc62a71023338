pub mod Asking
pub mod Meaning
pub mod Book
pub mod Safety
pub mod Reasons
pub mod Holding
