pub mod Heights
pub mod inner
