pub mod Stops
pub mod Limits
pub mod Lines
pub mod Scripts
