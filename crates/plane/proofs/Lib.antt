pub mod Start
pub mod Lengths
pub mod Asking
pub mod Reading
pub mod Equal
pub mod Ends
pub mod Plain
