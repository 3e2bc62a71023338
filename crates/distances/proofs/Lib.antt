pub mod Turning
pub mod Rising
