pub mod Arcs
pub mod Runs
pub mod Naming
pub mod Exactly
pub mod Spans
