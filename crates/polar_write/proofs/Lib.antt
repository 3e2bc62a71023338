pub mod Table
pub mod Moves
pub mod Reached
pub mod Written
pub mod Begins
pub mod Starts
