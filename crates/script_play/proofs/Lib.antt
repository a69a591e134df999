pub mod Turns
pub mod Stopping
pub mod Parts
