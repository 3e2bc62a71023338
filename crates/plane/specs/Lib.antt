pub mod Text
pub mod Start
