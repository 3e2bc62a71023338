pub mod Book
pub mod Reading
pub mod Finding
pub mod Meaning
pub mod inner
